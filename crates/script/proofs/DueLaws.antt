-- What is due, as the code meets it.
use mathlib.Core.Path.{◌≡◌, sym, ap}
use mathlib.Core.Bool.{Bool, true, false}
use Prim.Native.Nat.{ℕ}
use Rattle.script.specs.declared.Due.{Due}
use Rattle.script.specs.declared.Stage.{Stage}
use Rattle.script.specs.declared.Stage.TheVariants.{Loose, Sagas}
use Rattle.number.specs.declared.Edition.{Edition}
use Rattle.number.specs.Number.{edition_named}
use Rattle.script.specs.Stages.{stage_due, next_due, due_after}

pub after-loose : (d : Due) (loose : Bool) (v : ℕ) → loose ≡ true → stage_due d Loose ≡ due_after d loose v
unfolding due_after
after-loose d loose v h = rw h

pub after-stage : (d : Due) (loose : Bool) (v : ℕ) (s : Stage) → loose ≡ false → d.stage ≡ s → next_due s d v ≡ due_after d loose v
unfolding due_after
after-stage d loose v s h e = rw h (sym (ap (λ (x : Stage). next_due x d v) e))

pub edition-due : (ed : Edition) (v : ℕ) → ed ≡ edition_named v → ◌≡◌ {A = Due} (record { stage = Sagas; left = 0; edition = ed }) (record { stage = Sagas; left = 0; edition = edition_named v })
edition-due ed v e = λ i. record { stage = Sagas; left = 0; edition = e i }
