use Rattle.script.proofs.DueLaws.{after-loose, after-stage, edition-due}
use mathlib.Core.Path.{◌∙◌}
use Rattle.script.proofs.Due.after.Goals as goal

pub returns-then-loose : goal.returns-then-loose
returns-then-loose c = c.at.ensures ∙ after-loose _ _ _ c.if-loose.true

pub returns-in-Edition : goal.returns-in-Edition
returns-in-Edition c = edition-due _ c.args.first c.named.ensures ∙ after-stage _ _ c.args.first _ c.if-loose.false c.in-Edition.is

pub returns-in-Sagas : goal.returns-in-Sagas
returns-in-Sagas c = c.counted.ensures ∙ after-stage _ _ c.args.first _ c.if-loose.false c.in-Sagas.is

pub returns-in-Steps : goal.returns-in-Steps
returns-in-Steps c = c.counted-in-Steps.ensures ∙ after-stage _ _ c.args.first _ c.if-loose.false c.in-Steps.is

pub returns-in-Plain : goal.returns-in-Plain
returns-in-Plain c = c.at-in-Plain.ensures ∙ after-stage _ _ c.args.first _ c.if-loose.false c.in-Plain.is

pub returns-in-Objects : goal.returns-in-Objects
returns-in-Objects c = c.at-in-Objects.ensures ∙ after-stage _ _ c.args.first _ c.if-loose.false c.in-Objects.is

pub returns-in-Dependencies : goal.returns-in-Dependencies
returns-in-Dependencies c = c.counted-in-Dependencies.ensures ∙ after-stage _ _ c.args.first _ c.if-loose.false c.in-Dependencies.is

pub returns-in-Entries : goal.returns-in-Entries
returns-in-Entries c = c.counted-in-Entries.ensures ∙ after-stage _ _ c.args.first _ c.if-loose.false c.in-Entries.is

pub returns-in-Events : goal.returns-in-Events
returns-in-Events c = c.at-in-Events.ensures ∙ after-stage _ _ c.args.first _ c.if-loose.false c.in-Events.is

pub returns-in-Loose : goal.returns-in-Loose
returns-in-Loose c = c.at-in-Loose.ensures ∙ after-stage _ _ c.args.first _ c.if-loose.false c.in-Loose.is
