-- The table of pairs, as it is filled tie by tie.
use Prim.Native.Nat.{ℕ, ◌+◌}
use mathlib.Core.Path.{◌≡◌, refl, sym, ap, ◌∙◌}
use mathlib.Core.Bool.{Bool, true, false, ◌&&◌, ◌||◌, or-false, or_assoc}
use mathlib.Core.List.{[]}
use lib.Dec.{eqb}
use lib.ListN.{get_or, set, replicate}
use Rattle.laws.specs.Index.{any_below, tabulate, grid}
use Rattle.laws.proofs.IndexLaws.{any_none, any-more, grid-same, grid-set}
use Rattle.terms.specs.Limits.{most_transactions}
use Rattle.ties.specs.declared.Ops.{Ops}
use Rattle.ties.specs.Operations.{op_at, size}
use Rattle.ties.specs.Ties.{counts, edge, ties_of, pairs_of}
use Rattle.ties.proofs.TieLaws.{counts-small}

-- by a tie whose later operation is one of the first n
abbrev pub before_by : Ops → ℕ → ℕ → ℕ → Bool
before_by ops n = ties_of n (op_at ops)

-- the same, and the ties of operation j to the first i
abbrev pub into : Ops → ℕ → ℕ → ℕ → ℕ → Bool
into ops j i a b = before_by ops j a b || any_below i (λ p. edge (op_at ops p) (op_at ops j) a b)

pub by-none : (ops : Ops) → replicate most_transactions (replicate most_transactions false) ≡ grid most_transactions (before_by ops 0)
unfolding ties_of tabulate any_below
by-none ops = refl

pub by_all : (ops : Ops) (n : ℕ) → n ≡ size ops → grid most_transactions (before_by ops n) ≡ pairs_of ops
unfolding pairs_of
by_all ops n e = ap (λ (m : ℕ). grid most_transactions (before_by ops m)) e

module _ (ops : Ops) (j : ℕ) where
  pub into-none : grid most_transactions (before_by ops j) ≡ grid most_transactions (into ops j 0)
  into-none =
      grid-same most_transactions (before_by ops j) (into ops j 0)
      (λ a b. sym (ap (λ (t : Bool). before_by ops j a b || t) (any_none (λ p. edge (op_at ops p) (op_at ops j) a b)) ∙ or-false (before_by ops j a b)))

  pub into-all : grid most_transactions (into ops j j) ≡ grid most_transactions (before_by ops (j + 1))
  unfolding ties_of
  into-all =
      grid-same most_transactions (into ops j j) (before_by ops (j + 1))
      (λ a b. sym (any-more j (λ q. any_below q (λ p. edge (op_at ops p) (op_at ops q) a b))))

  module _ (i : ℕ) where
    more : {v : Bool} → counts (op_at ops i) (op_at ops j) ≡ v
        → (a b : ℕ) → (into ops j i a b || (v && (eqb a (op_at ops i).responsible && eqb b (op_at ops j).responsible))) ≡ into ops j (i + 1) a b
    unfolding edge
    more h a b =
        ap (λ (t : Bool). into ops j i a b || (t && (eqb a (op_at ops i).responsible && eqb b (op_at ops j).responsible))) (sym h)
        ∙ or_assoc (before_by ops j a b) (any_below i (λ p. edge (op_at ops p) (op_at ops j) a b)) (edge (op_at ops i) (op_at ops j) a b)
        ∙ ap (λ (t : Bool). before_by ops j a b || t) (sym (any-more i (λ p. edge (op_at ops p) (op_at ops j) a b)))

    -- the tie of i to j counts, and is marked
    pub into-mark : counts (op_at ops i) (op_at ops j) ≡ true
        → set (grid most_transactions (into ops j i)) (op_at ops i).responsible
        (set (get_or (grid most_transactions (into ops j i)) (op_at ops i).responsible []) (op_at ops j).responsible true)
        ≡ grid most_transactions (into ops j (i + 1))
    into-mark h =
        grid-set most_transactions (into ops j i) (op_at ops i).responsible (op_at ops j).responsible (counts-small (op_at ops i) (op_at ops j) h).0
        ∙ grid-same most_transactions _ (into ops j (i + 1)) (more h)

    -- it does not count
    pub into-skip : counts (op_at ops i) (op_at ops j) ≡ false → grid most_transactions (into ops j i) ≡ grid most_transactions (into ops j (i + 1))
    into-skip h = grid-same most_transactions (into ops j i) (into ops j (i + 1)) (λ a b. sym (or-false (into ops j i a b)) ∙ more h a b)
