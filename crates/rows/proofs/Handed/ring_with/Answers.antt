use Rattle.sets.proofs.SetLaws.{less-members}
use native.Mathlib.Omega.{arith}
use Prim.Native.Nat.{ℕ, ◌<◌}
use mathlib.Core.Path.{◌≡◌, refl, sym, ap, ◌∙◌, fun_ext}
use mathlib.Core.Bool.{Bool, true}
use mathlib.Core.List.{List}
use lib.ListN.{get_or}
use Rattle.sets.specs.Sets.{mem}
use Rattle.ties.specs.Ties.{ties_of, ring_with}
use Rattle.ties.proofs.TieLaws.{ties-small}
use Rattle.rows.specs.Rows.{read_with, mem_at}
use Rattle.rows.proofs.SweepLaws.{swept_all}
use Rattle.rows.proofs.LedLaws.{ring-past, ring-none, ring-back, shared-by}
use Rattle.ties.specs.declared.Operation.{Operation}
use Rattle.rows.proofs.Handed.ring_with.Goals as goal

-- the rows are who stands before whom, so they tie transactions alone, and their rings are those of the order
small : (rows : List ℕ) (total : ℕ) (op : ℕ → Operation) → ((a k : ℕ) → mem_at rows a k ≡ ties_of total op a k) → (a b : ℕ) → mem_at rows a b ≡ true → (a < 64) × (b < 64)
small rows total op e a b h = ties-small total op a b (sym (e a b) ∙ h)

of-order : (rows : List ℕ) (total : ℕ) (op : ℕ → Operation) → ((a k : ℕ) → mem_at rows a k ≡ ties_of total op a k) → (some v : ℕ)
    → ring_with (mem_at rows) (mem some) v ≡ ring_with (ties_of total op) (mem some) v
of-order rows total op e some v = ap (λ (R : ℕ → ℕ → Bool). ring_with R (mem some) v) (fun_ext (λ a. fun_ext (λ k. e a k)))

pub returns-then-v-ge-TRANSACTIONS : goal.returns-then-v-ge-TRANSACTIONS
returns-then-v-ge-TRANSACTIONS c =
    let s = c.args in
    let op = read_with s.self.ops.now s.self.giver s.self.receiver s.at s.x in
    sym (ring-past (ties_of s.total op) (ties-small s.total op) s.some s.v (omega arith))

pub returns-then-both-eq0 : goal.returns-then-both-eq0
returns-then-both-eq0 c =
    let s = c.args in
    let op = read_with s.self.ops.now s.self.giver s.self.receiver s.at s.x in
    let rows = c.sweep_with.new.met.rows in
    let stands = swept_all s.total op _ (c.sweep_with.ensures s.total op (omega arith) (λ i h l. refl) (c.nothing_met-met.ensures s.total op)) in
    let after = c.led_from-after in
    sym (ring-none (mem_at rows) (small rows s.total op stands) s.some s.v (get_or rows s.v 0) after.result c.without-both.result (λ k. refl) after.ensures (shared-by after.result s.some c.without-rest.result c.without-both.result (less-members _ _ c.without-rest.result c.without-rest.ensures) (less-members _ _ c.without-both.result c.without-both.ensures)) c.if-both-eq0.true)
    ∙ of-order rows s.total op stands s.some s.v

pub returns : goal.returns
returns c =
    let s = c.args in
    let op = read_with s.self.ops.now s.self.giver s.self.receiver s.at s.x in
    let rows = c.sweep_with.new.met.rows in
    let stands = swept_all s.total op _ (c.sweep_with.ensures s.total op (omega arith) (λ i h l. refl) (c.nothing_met-met.ensures s.total op)) in
    let after = c.led_from-after in
    let back = c.led_from-back in
    c.member.ensures
    ∙ ring-back (mem_at rows) (small rows s.total op stands) s.some s.v (get_or rows s.v 0) after.result c.without-both.result (λ k. refl) after.ensures (shared-by after.result s.some c.without-rest.result c.without-both.result (less-members _ _ c.without-rest.result c.without-rest.ensures) (less-members _ _ c.without-both.result c.without-both.ensures)) back.result back.ensures
    ∙ of-order rows s.total op stands s.some s.v
