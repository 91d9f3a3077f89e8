use Prim.Native.Nat.{ℕ}
use mathlib.Core.Path.{sym, ap, ◌∙◌}
use Rattle.std.specs.Prelude.{Option, Result, Ok}
use Rattle.items.specs.Items.{meaning}
use Rattle.items.specs.declared.EventSort.{EventSort}
use Rattle.desk.specs.declared.Unnamed.{Unnamed}
use Rattle.desk.proofs.SortLaws.{beside, by_sort, named-by-sort}
use Rattle.desk.proofs.named_by.Goals as goal

pub returns-in_default : goal.returns-in_default
returns-in_default c =
    let a = c.args in
    sym (named-by-sort a.edition a.code a.a a.b a.c a.d ∙ ap (λ (x : Option EventSort). by_sort a.edition x a.a a.b a.c a.d) (sym c.code_of.ensures ∙ c.in_default.is))

pub returns-in-Err : goal.returns-in-Err
returns-in-Err c =
    let a = c.args in
    sym (
    named-by-sort a.edition a.code a.a a.b a.c a.d
    ∙ ap (λ (x : Option EventSort). by_sort a.edition x a.a a.b a.c a.d) (sym c.code_of.ensures ∙ c.in-Some.is)
    ∙ ap (λ (r : Result ℕ Unnamed). beside r (meaning c.in-Some.sort a.a a.b a.c)) (sym c.record_beside.ensures ∙ c.in-Err.is)
    )

pub returns-in_default-meaning : goal.returns-in_default-meaning
returns-in_default-meaning c =
    let a = c.args in
    sym (
    named-by-sort a.edition a.code a.a a.b a.c a.d
    ∙ ap (λ (x : Option EventSort). by_sort a.edition x a.a a.b a.c a.d) (sym c.code_of.ensures ∙ c.in-Some.is)
    ∙ ap (λ (r : Result ℕ Unnamed). beside r (meaning c.in-Some.sort a.a a.b a.c)) (sym c.record_beside.ensures ∙ c.in-Ok.is)
    ∙ ap (beside (Ok c.in-Ok.pupil)) (sym c.meaning.ensures ∙ c.in_default-meaning.is)
    )

pub returns : goal.returns
returns c =
    let a = c.args in
    sym (
    named-by-sort a.edition a.code a.a a.b a.c a.d
    ∙ ap (λ (x : Option EventSort). by_sort a.edition x a.a a.b a.c a.d) (sym c.code_of.ensures ∙ c.in-Some.is)
    ∙ ap (λ (r : Result ℕ Unnamed). beside r (meaning c.in-Some.sort a.a a.b a.c)) (sym c.record_beside.ensures ∙ c.in-Ok.is)
    ∙ ap (beside (Ok c.in-Ok.pupil)) (sym c.meaning.ensures ∙ c.in-Some-meaning.is)
    )
