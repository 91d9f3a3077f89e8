-- What a set of transactions leads to, row by row, and whether one of some and v lead to each other.
use Prim.Native.Nat.{ℕ, ◌^◌, ◌≤◌, ◌<◌}
use native.Mathlib.Omega.{arith}
use mathlib.Core.Path.{◌≡◌, refl, sym, ap, ◌∙◌, subst, subst⁻¹}
use mathlib.Core.Bool.{Bool, true, false, not, ◌&&◌}
use mathlib.Core.Logic.{◌↔◌, ◌⊎◌, inl, inr, ⊎_elim}
use lib.Bits.{bit_or}
use lib.Dec.{eqb, ltb}
use borrow.Author.Tests.{eqb-true, eq-eqb, lt-ltb}
use Rattle.laws.proofs.Bools.{or_left, or_right, or_cases, and_on, on_and, on-not, not_on, is-not, together, clash, bool_cases}
use Rattle.laws.proofs.IndexLaws.{any-intro, any-elim}
use Rattle.terms.specs.Limits.{most_transactions}
use Rattle.sets.specs.Sets.{mem, inserted}
use Rattle.sets.specs.Reach.{Leads, leads_to}
use Rattle.sets.proofs.SetLaws.{mem-empty, mem-union, mem-inserted, inserted-in, union-le}
use Rattle.sets.proofs.ReachLaws.{join, leads-more, among-on, computed-leads, leads-computed}
use Rattle.ties.specs.Ties.{ring_with}
use Rattle.rows.specs.Rows.{Led}

-- ---- one row after the other

module _ (R : ℕ → ℕ → Bool) (from : ℕ) where
  -- what is reached is led to and holds the set, and the rows of those that are done are in it
  pub record Growing (reached done : ℕ) : Type 0 where
    pub only : (k : ℕ) → mem reached k ≡ true → Led R from k
    pub kept : (k : ℕ) → mem from k ≡ true → mem reached k ≡ true
    pub taken : (a k : ℕ) → mem done a ≡ true → R a k ≡ true → mem reached k ≡ true

  pub growing-first : Growing from 0
  growing-first = record { only = λ k h. Led.held h; kept = λ k h. h; taken = λ a k h. clash h (mem-empty a) }

  module _ (reached done : ℕ) (g : Growing reached done) (waiting : ℕ) (w : (k : ℕ) → mem waiting k ≡ (mem reached k && not (mem done k))) where
    waits : (a : ℕ) → mem waiting a ≡ true → (mem reached a ≡ true) × (not (mem done a) ≡ true)
    waits a h = on_and (mem reached a) (not (mem done a)) (sym (w a) ∙ h)

    -- the row of a is taken in
    module _ (a : ℕ) (l : a < 64) (h : mem waiting a ≡ true) where
      pub growing-more : (row : ℕ) → ((k : ℕ) → mem row k ≡ R a k) → Growing (bit_or reached row) (inserted done a)
      growing-more row r = record {
        only = λ k e. ⊎_elim (g.only k) (λ m. Led.onward (g.only a (waits a h).0) (sym (r k) ∙ m)) (or_cases (mem reached k) (mem row k) (sym (mem-union reached row k) ∙ e));
        kept = λ k e. old k (g.kept k e);
        taken = λ b k e x. ⊎_elim
            (λ m. old k (g.taken b k m x))
            (λ m. mem-union reached row k ∙ or_right (mem reached k) (mem row k) (r k ∙ subst (λ (c : ℕ). R c k ≡ true) (eqb-true b a m) x))
            (or_cases (mem done b) (eqb b a) (sym (mem-inserted done a b l) ∙ e));
      }
        where
          old : (k : ℕ) → mem reached k ≡ true → mem (bit_or reached row) k ≡ true
          old k m = mem-union reached row k ∙ or_left (mem reached k) (mem row k) m

      pub growing-less : done < inserted done a
      growing-less =
          let new : mem (inserted done a) a ≡ true = mem-inserted done a a l ∙ or_right (mem done a) (eqb a a) (eq-eqb a a refl) in
          let other : (done ≡ inserted done a → ⊥) = λ e. clash (ap (λ (x : ℕ). mem x a) e ∙ new) (on-not (mem done a) (waits a h).1) in
          let more : done ≤ inserted done a = subst⁻¹ (λ (x : ℕ). done ≤ x) (inserted-in done a l) (union-le done (2 ^ a)) in
          omega arith

    -- nobody waits: all is reached
    pub growing-end : waiting ≡ 0 → (k : ℕ) → (mem reached k ≡ true) ↔ Led R from k
    growing-end e k = (g.only k, whole)
      where
        is-done : (a : ℕ) → mem reached a ≡ true → mem done a ≡ true
        is-done a h = bool_cases (mem done a) (λ d. d)
            (λ d. clash (w a ∙ and_on (mem reached a) (not (mem done a)) h (not_on (mem done a) d)) (ap (λ (x : ℕ). mem x a) e ∙ mem-empty a))

        whole : {k : ℕ} → Led R from k → mem reached k ≡ true
        whole {k} (Led.held h) = g.kept k h
        whole {k} (Led.onward {a = a} l r) = g.taken a k (is-done a (whole l)) r

-- ---- there and back

module _ (R : ℕ → ℕ → Bool) where
  -- led to from a set: by one of it, or one of it itself
  led-source : {from k : ℕ} → Led R from k → (a : ℕ) × (mem from a ≡ true) × ((a ≡ k) ⊎ Leads R a k)
  led-source {k = k} (Led.held h) = (k, h, inl refl)
  led-source {k = k} (Led.onward w r) =
      let x = led-source w in
      (x.0, x.1, ⊎_elim (λ e. inr (Leads.last (subst⁻¹ (λ (d : ℕ). R d k ≡ true) e r))) (λ l. inr (join l (Leads.last r))) x.2)

  led_on : {from a k : ℕ} → Led R from a → Leads R a k → Led R from k
  led_on l (Leads.last r) = Led.onward l r
  led_on l (Leads.step r w) = led_on (Led.onward l r) w

module _ (R : ℕ → ℕ → Bool) (small : (a b : ℕ) → R a b ≡ true → (a < 64) × (b < 64)) (some v : ℕ) where
  leads-of : (a b : ℕ) → leads_to most_transactions R a b ≡ true → Leads R a b
  leads-of a b h = leads-more (λ x y e. among-on most_transactions R x y e) (computed-leads most_transactions R a b h)

  of-leads : (a b : ℕ) → Leads R a b → leads_to most_transactions R a b ≡ true
  of-leads a b w =
      leads-computed most_transactions R a b
      (leads-more (λ x y e.
      let s = small x y e in
      and_on (ltb x most_transactions) (ltb y most_transactions && R x y) (lt-ltb x most_transactions s.0) (and_on (ltb y most_transactions) (R x y) (lt-ltb y most_transactions s.1) e)) w)

  first_small : {a b : ℕ} → Leads R a b → a < 64
  first_small {a} (Leads.last {b = b} r) = (small a b r).0
  first_small {a} (Leads.step {b = b} r w) = (small a b r).0

  -- one of some that v leads to and that leads to v
  record Ringed : Type 0 where
    u : ℕ
    among : mem some u ≡ true
    to : Leads R v u
    back : Leads R u v

  abbrev rings : ℕ → Bool
  rings u = mem some u && (leads_to most_transactions R v u && leads_to most_transactions R u v)

  ringed : ring_with R (mem some) v ≡ true → Ringed
  unfolding ring_with
  ringed h =
      let w = any-elim most_transactions rings h in
      let x = on_and (mem some w.0) (leads_to most_transactions R v w.0 && leads_to most_transactions R w.0 v) w.2 in
      let y = on_and (leads_to most_transactions R v w.0) (leads_to most_transactions R w.0 v) x.1 in
      record { u = w.0; among = x.0; to = leads-of v w.0 y.0; back = leads-of w.0 v y.1 }

  ringed-on : Ringed → ring_with R (mem some) v ≡ true
  unfolding ring_with
  ringed-on w =
      any-intro most_transactions rings w.u (first_small w.back)
      (and_on (mem some w.u) (leads_to most_transactions R v w.u && leads_to most_transactions R w.u v) w.among
      (and_on (leads_to most_transactions R v w.u) (leads_to most_transactions R w.u v) (of-leads v w.u w.to) (of-leads w.u v w.back)))

  -- what is no transaction leads nowhere
  pub ring-past : 64 ≤ v → ring_with R (mem some) v ≡ false
  ring-past h = is-not (ring_with R (mem some) v) (λ t. let w = ringed t in absurd (omega (arith, first_small w.to)))

  -- v's row, all that it leads to, and those of some among these
  module _ (next after both : ℕ) (row : (k : ℕ) → mem next k ≡ R v k) (all : (k : ℕ) → (mem after k ≡ true) ↔ Led R next k)
      (shared : (k : ℕ) → mem both k ≡ (mem after k && mem some k)) where
    after-leads : (k : ℕ) → mem after k ≡ true → Leads R v k
    after-leads k h =
        let x = led-source R ((all k).0 h) in
        let r : R v x.0 ≡ true = sym (row x.0) ∙ x.1 in
        ⊎_elim (λ e. Leads.last (subst (λ (d : ℕ). R v d ≡ true) e r)) (λ l. Leads.step r l) x.2

    leads-after : {k : ℕ} → Leads R v k → mem after k ≡ true
    leads-after {k} (Leads.last r) = (all k).1 (Led.held (row k ∙ r))
    leads-after {k} (Leads.step {b = b} r w) = (all k).1 (led_on R (Led.held (row b ∙ r)) w)

    in_both : (w : Ringed) → mem both w.u ≡ true
    in_both w = shared w.u ∙ and_on (mem after w.u) (mem some w.u) (leads-after w.to) w.among

    pub ring-none : both ≡ 0 → ring_with R (mem some) v ≡ false
    ring-none e =
        is-not (ring_with R (mem some) v)
        (λ t. let w = ringed t in clash (in_both w) (ap (λ (x : ℕ). mem x w.u) e ∙ mem-empty w.u))

    pub ring-back : (back : ℕ) → ((k : ℕ) → (mem back k ≡ true) ↔ Led R both k) → mem back v ≡ ring_with R (mem some) v
    ring-back back led =
        together (mem back v) (ring_with R (mem some) v)
        (λ h.
        let x = led-source R ((led v).0 h) in
        let y = on_and (mem after x.0) (mem some x.0) (sym (shared x.0) ∙ x.1) in
        let to = after-leads x.0 y.0 in
        ringed-on (record { u = x.0; among = y.1; to = to; back = ⊎_elim (λ e. subst⁻¹ (λ (d : ℕ). Leads R d v) e (subst (λ (d : ℕ). Leads R v d) e to)) (λ l. l) x.2 }))
        (λ h. let w = ringed h in (led v).1 (led_on R (Led.held (in_both w)) w.back))

-- what is in a set but not in what of it is not among some
pub shared-by : (after some rest both : ℕ) → ((k : ℕ) → mem rest k ≡ (mem after k && not (mem some k))) → ((k : ℕ) → mem both k ≡ (mem after k && not (mem rest k)))
    → (k : ℕ) → mem both k ≡ (mem after k && mem some k)
shared-by after some rest both r b k = b k ∙ ap (λ (x : Bool). mem after k && not x) (r k) ∙ twice (mem after k) (mem some k)
  where
    twice : (x y : Bool) → (x && not (x && not y)) ≡ (x && y)
    twice true true = refl
    twice true false = refl
    twice false y = refl
