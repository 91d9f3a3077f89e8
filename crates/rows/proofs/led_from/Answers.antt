use native.Mathlib.Omega.{arith}
use Prim.Native.Nat.{ℕ, ◌^◌, ◌<◌}
use mathlib.Core.Path.{◌≡◌, refl, subst⁻¹}
use mathlib.Core.Bool.{true}
use mathlib.Core.Logic.{◌≢◌}
use Rattle.laws.specs.Index.{first_below}
use lib.Bits.{bit_or}
use lib.ListN.{get_or}
use Rattle.laws.proofs.Bools.{clash}
use Rattle.laws.proofs.Decisions.{lt-or}
use Rattle.sets.specs.Sets.{mem}
use Rattle.sets.proofs.SetLaws.{mem-past, lowest-in, less-members}
use Rattle.rows.specs.Rows.{mem_at}
use Rattle.rows.proofs.LedLaws.{Growing, growing-first, growing-more, growing-less, growing-end}
use Rattle.rows.proofs.led_from.Goals as goal

-- the next one is among those that wait, and is a transaction
waits : (w a : ℕ) → w < 2 ^ 64 → w ≢ 0 → a ≡ first_below 64 (mem w) → mem w a ≡ true
waits w a h n e = subst⁻¹ (λ (k : ℕ). mem w k ≡ true) e (lowest-in w h n)

small : (w a : ℕ) → w < 2 ^ 64 → w ≢ 0 → a ≡ first_below 64 (mem w) → a < 64
small w a h n e = lt-or a 64 (λ l. l) (λ l. clash (waits w a h n e) (mem-past w a h l))

pub loop-from-init : goal.loop-from-init
loop-from-init c = growing-first (mem_at c.args.rows.now) c.args.from

pub returns-then-waiting-eq0 : goal.returns-then-waiting-eq0
returns-then-waiting-eq0 c =
    let a = c.args in
    let l = c.loop-from in
    let w = c.without-waiting in
    growing-end (mem_at a.rows.now) a.from l.reached l.done l.invariant w.result (less-members _ _ w.result w.ensures) c.if-waiting-eq0.true

pub offset_bounds-rows-a : goal.offset_bounds-rows-a
offset_bounds-rows-a c = record { fits = omega (arith, small c.without-waiting.result c.lowest-a.result (omega arith) (omega arith) c.lowest-a.ensures) }

pub bounds-rows-a : goal.bounds-rows-a
bounds-rows-a c = small c.without-waiting.result c.lowest-a.result (omega arith) (omega arith) c.lowest-a.ensures

pub loop-from-smaller : goal.loop-from-smaller
loop-from-smaller c =
    let a = c.args in
    let l = c.loop-from in
    let w = c.without-waiting in
    let at = c.lowest-a.result in
    omega (arith, c.with_member-done.ensures, growing-less (mem_at a.rows.now) a.from l.reached l.done l.invariant w.result (less-members _ _ w.result w.ensures) at (small c.without-waiting.result c.lowest-a.result (omega arith) (omega arith) c.lowest-a.ensures) (waits c.without-waiting.result c.lowest-a.result (omega arith) (omega arith) c.lowest-a.ensures))

pub loop-from-preserved : goal.loop-from-preserved
loop-from-preserved c =
    let a = c.args in
    let l = c.loop-from in
    let w = c.without-waiting in
    let at = c.lowest-a.result in
    let row = get_or a.rows.now at 0 in
    subst⁻¹ (Growing (mem_at a.rows.now) a.from (bit_or l.reached row)) c.with_member-done.ensures
    (growing-more (mem_at a.rows.now) a.from l.reached l.done l.invariant w.result (less-members _ _ w.result w.ensures) at (small c.without-waiting.result c.lowest-a.result (omega arith) (omega arith) c.lowest-a.ensures) (waits c.without-waiting.result c.lowest-a.result (omega arith) (omega arith) c.lowest-a.ensures) row (λ k. refl))
