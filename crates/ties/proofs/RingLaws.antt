-- Rings: t is on one exactly when following ties leads from it back to it; and over any operations, led to and computed.
use Prim.Native.Nat.{ℕ}
use native.Mathlib.Omega.{arith}
use mathlib.Core.Path.{◌≡◌, sym, ◌∙◌}
use mathlib.Core.Bool.{true, false}
use Rattle.laws.specs.Index.{any_below}
use Rattle.laws.proofs.Bools.{is-not, clash}
use Rattle.laws.proofs.IndexLaws.{any-off}
use Rattle.terms.specs.Limits.{most_transactions}
use Rattle.sets.specs.Reach.{Leads, leads_to}
use Rattle.sets.proofs.ReachLaws.{leads-more, computed-leads, leads-computed, last_step}
use Rattle.ties.specs.declared.Operation.{Operation}
use Rattle.ties.specs.declared.Ops.{Ops}
use Rattle.ties.specs.Operations.{op_at, size}
use Rattle.ties.specs.Ties.{edge, ties_of, before, on_ring}
use Rattle.ties.proofs.TieLaws.{ties-among}

module _ (n : ℕ) (op : ℕ → Operation) (a b : ℕ) where
  pub leads-of : leads_to most_transactions (ties_of n op) a b ≡ true → Leads (ties_of n op) a b
  leads-of h = leads-more (λ x y e. sym (ties-among n op x y) ∙ e) (computed-leads most_transactions (ties_of n op) a b h)

  pub of-leads : Leads (ties_of n op) a b → leads_to most_transactions (ties_of n op) a b ≡ true
  of-leads w = leads-computed most_transactions (ties_of n op) a b (leads-more (λ x y e. ties-among n op x y ∙ e) w)

module _ (ops : Ops) (t : ℕ) where
  pub ring-leads : on_ring ops t ≡ true → Leads (before ops) t t
  unfolding on_ring
  ring-leads h = leads-of (size ops) (op_at ops) t t h

  pub leads-ring : Leads (before ops) t t → on_ring ops t ≡ true
  unfolding on_ring
  leads-ring w = of-leads (size ops) (op_at ops) t t w

  -- nothing stands before t
  pub ring-free : ((a : ℕ) → before ops a t ≡ false) → on_ring ops t ≡ false
  ring-free f = is-not (on_ring ops t) (λ e. let s = last_step (ring-leads e) in clash s.1 (f s.0))

  -- nor is anyone where there are no operations
  pub ring-none : size ops ≡ 0 → on_ring ops t ≡ false
  unfolding ties_of
  ring-none e = ring-free (λ a. any-off (size ops) (λ q. any_below q (λ p. edge (op_at ops p) (op_at ops q) a t)) (λ q l. absurd (omega arith)))
