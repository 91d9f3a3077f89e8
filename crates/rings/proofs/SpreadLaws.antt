-- Passes one after the other: what is led to from a transaction, or from a set of them.
use Prim.Native.Nat.{ℕ, ◌^◌, ◌<◌}
use native.Mathlib.Omega.{arith}
use mathlib.Core.Path.{◌≡◌, sym, ap, ◌∙◌}
use mathlib.Core.Bool.{Bool, true, false, not, ◌&&◌}
use mathlib.Core.Logic.{◌≢◌}
use lib.Dec.{ltb}
use borrow.Author.Tests.{lt-ltb}
use Rattle.laws.proofs.Bools.{and_on, on_and, on-not, together, clash, bool_cases}
use Rattle.terms.specs.Limits.{most_transactions}
use Rattle.sets.specs.Sets.{mem}
use Rattle.sets.specs.Reach.{Leads, leads_to}
use Rattle.sets.proofs.SetLaws.{mem-empty, same_set}
use Rattle.sets.proofs.ReachLaws.{join, leads-more, among-on, computed-leads, leads-computed}
use Rattle.rings.specs.Passes.{Led, Spread}
use Rattle.rings.proofs.PassLaws.{Passed}

-- ---- rounds

module _ (R : ℕ → ℕ → Bool) (start from : ℕ) where
  -- what is reached is led to, and holds the set
  pub record Known (reached : ℕ) : Type 0 where
    pub only : (k : ℕ) → mem reached k ≡ true → Led R start from k
    pub kept : (k : ℕ) → mem from k ≡ true → mem reached k ≡ true

  pub known-first : Known from
  known-first = record { only = λ k h. Led.held h; kept = λ k h. h }

  through : (x : ℕ) → ((k : ℕ) → mem x k ≡ true → Led R start from k) → {k : ℕ} → Led R start x k → Led R start from k
  through x f {k} (Led.held h) = f k h
  through x f (Led.begun r) = Led.begun r
  through x f (Led.onward w r) = Led.onward (through x f w) r

  module _ (target reached next missed : ℕ) (o : Known reached) (p : Passed R start reached next missed) where
    pub known_more : Known next
    known_more = record { only = λ k h. through reached o.only (p.only k h); kept = λ k h. p.kept k (o.kept k h) }

    pub spread-met : mem next target ≡ true → Spread R start from target next
    spread-met h = record { only = λ k e. known_more.only k e; all = λ off. clash h off }

    module _ (whole : ℕ) (w : (k : ℕ) → mem whole k ≡ (mem next k && not (mem missed k))) where
      pub spread-done : whole ≡ next → Spread R start from target next
      spread-done e = record { only = λ k h. known_more.only k h; all = λ off k l. go off l }
        where
          not-missed : (k : ℕ) → mem next k ≡ true → mem missed k ≡ false
          not-missed k h = on-not (mem missed k) (on_and (mem next k) (not (mem missed k)) (sym (w k) ∙ ap (λ (n : ℕ). mem n k) e ∙ h)).1

          go : mem next target ≡ false → {k : ℕ} → Led R start from k → mem next k ≡ true
          go off {k} (Led.held h) = p.kept k (o.kept k h)
          go off {k} (Led.begun r) = p.first k r
          go off {k} (Led.onward {a = a} l r) = p.done a k (not-missed a (go off l)) r

      pub spread-less : next < 2 ^ 64 → whole < 2 ^ 64 → whole ≢ next → reached < next
      spread-less hn hw e =
          let other : next ≢ reached = λ s. e (same_set 64 whole next hw hn (λ k l. w k ∙ bool_cases (mem next k)
          (λ h. rw (h, p.fresh k (ap (λ (n : ℕ). mem n k) (sym s) ∙ h)))
          (λ h. rw h)))
          in
          omega (arith, p.more)

-- ---- led to and computed

module _ (R : ℕ → ℕ → Bool) (small : (a b : ℕ) → R a b ≡ true → (a < 64) × (b < 64)) where
  leads-of : (a b : ℕ) → leads_to most_transactions R a b ≡ true → Leads R a b
  leads-of a b h = leads-more (λ x y e. among-on most_transactions R x y e) (computed-leads most_transactions R a b h)

  of-leads : (a b : ℕ) → Leads R a b → leads_to most_transactions R a b ≡ true
  of-leads a b w =
      leads-computed most_transactions R a b
      (leads-more (λ x y e.
      let s = small x y e in
      and_on (ltb x most_transactions) (ltb y most_transactions && R x y) (lt-ltb x most_transactions s.0) (and_on (ltb y most_transactions) (R x y) (lt-ltb y most_transactions s.1) e)) w)

  led-leads : (start : ℕ) {k : ℕ} → Led R start 0 k → Leads R start k
  led-leads start {k} (Led.held h) = clash h (mem-empty k)
  led-leads start (Led.begun r) = Leads.last r
  led-leads start (Led.onward w r) = join (led-leads start w) (Leads.last r)

  led_on : (start from : ℕ) {a k : ℕ} → Led R start from a → Leads R a k → Led R start from k
  led_on start from l (Leads.last r) = Led.onward l r
  led_on start from l (Leads.step r w) = led_on start from (Led.onward l r) w

  leads-led : (start from : ℕ) {k : ℕ} → Leads R start k → Led R start from k
  leads-led start from (Leads.last r) = Led.begun r
  leads-led start from (Leads.step r w) = led_on start from (Led.begun r) w

  -- from a transaction
  pub spread-back : (t r : ℕ) → Spread R t 0 t r → mem r t ≡ leads_to most_transactions R t t
  spread-back t r s =
      together (mem r t) (leads_to most_transactions R t t)
      (λ h. of-leads t t (led-leads t (s.only t h)))
      (λ h. bool_cases (mem r t) (λ e. e) (λ off. s.all off t (leads-led t 0 (leads-of t t h))))
