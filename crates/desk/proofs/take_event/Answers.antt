use mathlib.Core.Path.{sym, ap, ◌∙◌}
use Rattle.terms.specs.Refusals.{verdict_number}
use Rattle.desk.proofs.StandLaws.{denied, took, verdict-is}
use Rattle.desk.proofs.take_event.Goals as goal

pub returns-in-Accepted : goal.returns-in-Accepted
returns-in-Accepted c =
    λ j steps st.
    let a = c.args in
    let t = c.take-shown in
    let e = t.ensures j.tables st.tables in
    let told = c.in-Accepted.is in
    let is = verdict-is j a.sheet.now a.transactions.now a.ops.now a.records.now steps a.counts.now st a.event t.new.transactions
    t.new.ops t.result.verdict t.result.count t.result.left e.0 e.1.0 e.1.1 in (
      sym (ap verdict_number (sym is ∙ told)),
      took j a.sheet.now a.transactions.now a.ops.now a.records.now steps a.counts.now st a.event t.new.transactions
          t.new.ops t.result.verdict t.result.count t.result.left e.0 e.1.0 e.1.1
          told a.pupil _ c.note.ensures _ c.more-taken.ensures _ c.put_counts.ensures,
    )

pub returns-in-Refused : goal.returns-in-Refused
returns-in-Refused c =
    λ j steps st.
    let a = c.args in
    let t = c.take-shown in
    let e = t.ensures j.tables st.tables in
    let told = c.in-Refused.is in
    let is = verdict-is j a.sheet.now a.transactions.now a.ops.now a.records.now steps a.counts.now st a.event t.new.transactions
    t.new.ops t.result.verdict t.result.count t.result.left e.0 e.1.0 e.1.1 in (
      c.number.ensures ∙ sym (ap verdict_number (sym is ∙ told)),
      denied j a.sheet.now a.transactions.now a.ops.now a.records.now steps a.counts.now st a.event t.new.transactions
          t.new.ops t.result.verdict t.result.count t.result.left e.0 e.1.0 e.1.1
          _ told a.pupil _ c.more-denied.ensures _ c.put_counts-in-Refused.ensures,
    )
