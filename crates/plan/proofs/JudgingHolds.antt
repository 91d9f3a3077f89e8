-- Each refusal of a plan is answered exactly when its line holds and none before it does.
use mathlib.Core.Path.{◌≡◌, refl, ap}
use mathlib.Core.Bool.{Bool, true, false}
use mathlib.Core.List.{List, [], ◌∷◌}
use Prim.Native.Nat.{ℕ, ◌≤◌}
use native.Mathlib.Omega.{arith}
use lib.ListN.{length, get_or, get_or-eq_default}
use borrow.Author.Tests.{lt-ltb, le-ltb, le-leb, ltb-true, ltb-false, leb-true}
use Rattle.laws.specs.Lines.{line, first_line}
use Rattle.laws.proofs.Bools.{is-not, clash}
use Rattle.laws.proofs.Decisions.{lt-or}
use Rattle.laws.proofs.IndexLaws.{any-intro, any-elim}
use Rattle.plan.specs.declared.PlanRefusal.TheVariants.{TooManySteps, TooManyLists, LongName, NoSuchMove}
use Rattle.std.proofs.Common.{Ok, Err}
use Rattle.plan.specs.Names.{name_at}
use Rattle.plan.specs.Verdict.{plan_number, too_many_steps, too_many_lists, long_name, no_such_move, plan_verdict}
use Rattle.plan.specs.Promises.{ManySteps, LongNamed, Lost, Judging}
use Rattle.plan.proofs.NameLaws.{name-past}
use Rattle.plan.proofs.VerdictLaws.{many_steps, is_long, is_lost}

-- ---- the first of four lines

abbrev first : Bool → Bool → Bool → Bool → ℕ
first a b c d =
    plan_number (first_line Err (Ok tt) (line TooManySteps a ∷ line TooManyLists b ∷ line LongName c ∷ line NoSuchMove d ∷ []))

-- what the number tells of the four lines
abbrev Told : ℕ → Bool → Bool → Bool → Bool → Type 0
Told n a b c d =
    (n ≡ 25 → a ≡ true) × (n ≡ 26 → (a ≡ false) × (b ≡ true)) × (n ≡ 27 → (a ≡ false) × (b ≡ false) × (c ≡ true))
    × (n ≡ 28 → (a ≡ false) × (b ≡ false) × (c ≡ false) × (d ≡ true)) × (n ≡ 0 → (a ≡ false) × (b ≡ false) × (c ≡ false) × (d ≡ false))

told : (a b c d : Bool) → Told (first a b c d) a b c d
told true b c d = (λ e. refl, λ e. absurd (omega arith), λ e. absurd (omega arith), λ e. absurd (omega arith), λ e. absurd (omega arith))
told false true c d = (λ e. absurd (omega arith), λ e. (refl, refl), λ e. absurd (omega arith), λ e. absurd (omega arith), λ e. absurd (omega arith))
told false false true d =
    (λ e. absurd (omega arith), λ e. absurd (omega arith), λ e. (refl, refl, refl), λ e. absurd (omega arith), λ e. absurd (omega arith))
told false false false true =
    (λ e. absurd (omega arith), λ e. absurd (omega arith), λ e. absurd (omega arith), λ e. (refl, refl, refl, refl), λ e. absurd (omega arith))
told false false false false =
    (λ e. absurd (omega arith), λ e. absurd (omega arith), λ e. absurd (omega arith), λ e. absurd (omega arith), λ e. (refl, refl, refl, refl))

-- ---- what each line means

module _ (names ends steps lists : List ℕ) where
  many-on : too_many_steps steps ≡ true → ManySteps steps
  many-on e = let r = any-elim (length steps) (many_steps steps) e in (r.0, ltb-true 16 (get_or steps r.0 0) r.2)

  on-many : ManySteps steps → too_many_steps steps ≡ true
  on-many m =
      lt-or m.0 (length steps)
      (λ l. any-intro (length steps) (many_steps steps) m.0 l (lt-ltb 16 (get_or steps m.0 0) m.1))
      (λ l. let e = get_or-eq_default steps 0 {n = m.0} l in absurd (omega (arith, e, m.1)))

  long-on : long_name names ends ≡ true → LongNamed names ends
  long-on e = let r = any-elim (length ends) (is_long names ends) e in (r.0, ltb-true 24 (length (name_at names ends r.0)) r.2)

  on-long : LongNamed names ends → long_name names ends ≡ true
  on-long m =
      lt-or m.0 (length ends)
      (λ l. any-intro (length ends) (is_long names ends) m.0 l (lt-ltb 24 (length (name_at names ends m.0)) m.1))
      (λ l. let e = ap length (name-past names ends m.0 l) in absurd (omega (arith, e, m.1)))

  lost-on : no_such_move steps lists ≡ true → Lost steps lists
  lost-on e = let r = any-elim (length lists) (is_lost steps lists) e in (r.0, r.1, leb-true (length steps) (get_or lists r.0 0) r.2)

  on-lost : Lost steps lists → no_such_move steps lists ≡ true
  on-lost m = any-intro (length lists) (is_lost steps lists) m.0 m.1 (le-leb (length steps) (get_or lists m.0 0) m.2)

  few_on : too_many_lists lists ≡ false → length lists ≤ 30
  few_on e = ltb-false 30 (length lists) e

  on-few : length lists ≤ 30 → too_many_lists lists ≡ false
  on-few h = le-ltb 30 (length lists) h

  not-many : too_many_steps steps ≡ false → ManySteps steps → ⊥
  not-many e m = clash (on-many m) e

  many-not : (ManySteps steps → ⊥) → too_many_steps steps ≡ false
  many-not h = is-not (too_many_steps steps) (λ e. h (many-on e))

  not-long : long_name names ends ≡ false → LongNamed names ends → ⊥
  not-long e m = clash (on-long m) e

  long-not : (LongNamed names ends → ⊥) → long_name names ends ≡ false
  long-not h = is-not (long_name names ends) (λ e. h (long-on e))

  not-lost : no_such_move steps lists ≡ false → Lost steps lists → ⊥
  not-lost e m = clash (on-lost m) e

  lost-not : (Lost steps lists → ⊥) → no_such_move steps lists ≡ false
  lost-not h = is-not (no_such_move steps lists) (λ e. h (lost-on e))

  tells : Told (plan_number (plan_verdict names ends steps lists)) (too_many_steps steps) (too_many_lists lists) (long_name names ends) (no_such_move steps lists)
  unfolding plan_verdict
  tells = told (too_many_steps steps) (too_many_lists lists) (long_name names ends) (no_such_move steps lists)

  pub judging-holds : Judging names ends steps lists
  unfolding plan_verdict
  judging-holds =
      record {
        steps_25 = (λ e. many-on (tells.0 e), λ m. rw (on-many m));
        lists_26 =
            (λ e. let t = tells.1 e in (not-many t.0, ltb-true 30 (length lists) t.1), λ m. rw (many-not m.0, lt-ltb 30 (length lists) m.1));
        name_27 =
            (λ e. let t = tells.2 e in (not-many t.0, few_on t.1, long-on t.2), λ m. rw (many-not m.0, on-few m.1, on-long m.2));
        move_28 = (
          λ e. let t = tells.3 e in (not-many t.0, few_on t.1, not-long t.2, lost-on t.3),
          λ m. rw (many-not m.0, on-few m.1, long-not m.2, on-lost m.3),
        );
        fits_0 = (
          λ e. let t = tells.4 e in (not-many t.0, few_on t.1, not-long t.2, not-lost t.3),
          λ m. rw (many-not m.0, on-few m.1, long-not m.2, lost-not m.3),
        );
      }
