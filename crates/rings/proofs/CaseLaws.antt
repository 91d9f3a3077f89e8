-- One operation more in a pass, by cases: whose it is, and whether its transaction is reached.
use Prim.Native.Nat.{ℕ}
use mathlib.Core.Path.{◌≡◌, ap, ◌∙◌}
use mathlib.Core.Bool.{Bool, true, false, ◌||◌, and-true, and-false, or-false}
use mathlib.Core.Logic.{◌≢◌}
use borrow.Author.Tests.{eq-eqb, ne_eqb}
use Rattle.laws.proofs.Bools.{or_left, or_right}
use Rattle.ties.specs.declared.Operation.{Operation}
use Rattle.ties.specs.Ties.{is_gone}
use Rattle.rings.specs.Passes.{begun_by, joined_by, left_by, behind, after_start, known, hits, passed}
use Rattle.rings.specs.declared.Pass.{Pass}

module _ (start : ℕ) (q : Operation) (p : Pass) where
  pub passed-gone : is_gone q ≡ true → p ≡ passed start q p
  unfolding passed
  passed-gone h = rw h

  module _ (live : is_gone q ≡ false) where
    module _ (own : q.responsible ≡ start) where
      hits-own : hits start q p ≡ (behind q p || known q p)
      hits-own = rw (eq-eqb q.responsible start own) (ap (λ (b : Bool). behind q p || (known q p || b)) (and-false (after_start q p)) ∙ ap (λ (b : Bool). behind q p || b) (or-false (known q p)))

      pub own-joined : (behind q p || known q p) ≡ true → joined_by q (begun_by q p) ≡ passed start q p
      unfolding passed
      own-joined h = rw (live, hits-own ∙ h, eq-eqb q.responsible start own)

      pub own-left : (behind q p || known q p) ≡ false → left_by q (begun_by q p) ≡ passed start q p
      unfolding passed
      own-left h = rw (live, hits-own ∙ h, eq-eqb q.responsible start own)

    module _ (other : q.responsible ≢ start) where
      hits-other : hits start q p ≡ (behind q p || (known q p || after_start q p))
      hits-other = rw (ne_eqb q.responsible start other) (ap (λ (b : Bool). behind q p || (known q p || b)) (and-true (after_start q p)))

      pub known_joined : known q p ≡ true → joined_by q p ≡ passed start q p
      unfolding passed
      known_joined h =
          rw (live, hits-other ∙ or_right (behind q p) (known q p || after_start q p) (or_left (known q p) (after_start q p) h), ne_eqb q.responsible start other)

      module _ (off : known q p ≡ false) where
        hits-met : hits start q p ≡ (behind q p || after_start q p)
        hits-met = hits-other ∙ ap (λ (b : Bool). behind q p || (b || after_start q p)) off

        pub met-joined : (behind q p || after_start q p) ≡ true → joined_by q p ≡ passed start q p
        unfolding passed
        met-joined h = rw (live, hits-met ∙ h, ne_eqb q.responsible start other)

        pub not-met : (behind q p || after_start q p) ≡ false → left_by q p ≡ passed start q p
        unfolding passed
        not-met h = rw (live, hits-met ∙ h, ne_eqb q.responsible start other)
