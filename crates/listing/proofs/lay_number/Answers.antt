use native.Mathlib.Omega.{arith}
use Prim.Native.Nat.{◌+◌, ◌-◌}
use mathlib.Core.Path.{refl, ap}
use lib.ListN.{length-set}
use Rattle.listing.proofs.LayLaws.{digit-more, digits-done, digits-end, digits_more, digits-start, one-digit}
use Rattle.listing.proofs.lay_number.Goals as goal

pub loop-rest-init : goal.loop-rest-init
loop-rest-init c = (refl, (omega arith, digits-start c.args.n c.args.at c.args.room.now (c.args.at + c.args.width) (ap (c.args.at +◌) c.requires.0)))

pub overflow_sub-i : goal.overflow_sub-i
overflow_sub-i c =
    let l = c.loop-rest in
    omega (arith, l.invariant.1.1.place, digit-more l.rest (omega arith) (omega (arith, l.invariant.1.0)))

pub bounds-room-i : goal.bounds-room-i
bounds-room-i c =
    let a = c.args in
    let l = c.loop-rest in
    omega (arith, l.invariant.0, c.requires.0, c.requires.1, l.invariant.1.1.place, digit-more l.rest (omega arith) (omega (arith, l.invariant.1.0)), digits-end a.n a.at a.room.now l.rest l.i l.room l.invariant.1.1)

pub loop-rest-smaller : goal.loop-rest-smaller
loop-rest-smaller c = omega arith

pub loop-rest-preserved : goal.loop-rest-preserved
loop-rest-preserved c =
    let a = c.args in
    let l = c.loop-rest in
    let more = digit-more l.rest (omega arith) (omega (arith, l.invariant.1.0)) in (
      simp length-set l.invariant.0,
      (
        omega (arith, l.invariant.1.0),
        digits_more a.n a.at a.room.now l.rest l.i (l.i - 1) l.room l.invariant.1.1 (omega (arith, c.requires.0, c.requires.1)) (omega arith) (omega (arith, l.invariant.1.0))
            (omega (arith, l.invariant.1.1.place, more)),
      ),
    )

pub bounds-room-at : goal.bounds-room-at
bounds-room-at c =
    let a = c.args in
    let l = c.loop-rest in
    omega (arith, l.invariant.0, c.requires.0, c.requires.1, l.invariant.1.1.place, one-digit l.rest (omega arith), digits-end a.n a.at a.room.now l.rest l.i l.room l.invariant.1.1)

pub returns : goal.returns
returns c =
    let a = c.args in
    let l = c.loop-rest in
    digits-done a.n a.at a.room.now l.rest l.i l.room l.invariant.1.1 (omega (arith, c.requires.0, c.requires.1)) (omega arith)
