use native.Mathlib.Omega.{arith}
use Prim.Native.Nat.{ℕ, ◌+◌}
use mathlib.Core.Path.{◌≡◌, refl, ap, ◌∙◌}
use mathlib.Core.List.{List}
use lib.ListN.{length, length-set, set}
use Rattle.terms.specs.Refusals.{number_of}
use Rattle.listing.specs.Lines.{no_line}
use Rattle.listing.specs.Words.{decimal}
use Rattle.listing.proofs.LayLaws.{byte-laid, lays-no, no-long}
use Rattle.listing.proofs.lay_no.Goals.{After-digits-wide, After-lay_number}
use Rattle.listing.proofs.lay_no.Goals as goal

-- three letters are laid
abbrev front : List ℕ → ℕ → List ℕ
front room at = set (set (set room at 110) (at + 1) 111) (at + 2) 32

-- which keeps the length of the room
front-long : (room : List ℕ) (at : ℕ) → length (front room at) ≡ length room
front-long room at = simp length-set refl

second : (k : ℕ) → k + 2 ≡ k + 1 + 1
second k = omega arith

third : (k : ℕ) → k + 3 ≡ k + 2 + 1
third k = omega arith

-- the line ends where it is as long as it is to be
ends-at : (c : After-digits-wide) → c.args.at + 3 + c.digits-long.result + 1 + c.digits-wide.result + 1 ≡ c.args.at + length (no_line c.args.no)
ends-at c =
    let wide_is : c.digits-wide.result ≡ length (decimal (number_of c.args.no.refusal)) =
    c.digits-wide.ensures ∙ ap (λ (k : ℕ). length (decimal k)) c.number-number.ensures in
    omega (arith, no-long c.args.no, c.digits-long.ensures, wide_is)

-- and behind the first number too the room has its length
second-at : (c : After-lay_number) → length (set c.lay_number.new.room (c.args.at + 3 + c.digits-long.result) 32) ≡ length c.args.room.now
second-at c = simp length-set (c.lay_number.auto.room ∙ front-long c.args.room.now c.args.at)

pub overflow_add-blank : goal.overflow_add-blank
overflow_add-blank c =
    let ends = ends-at (goal.at.overflow_add-blank c).After-digits-wide in
    omega (arith, ends, c.requires)

pub overflow_add-second : goal.overflow_add-second
overflow_add-second c =
    let ends = ends-at (goal.at.overflow_add-second c).After-digits-wide in
    omega (arith, ends, c.requires)

pub overflow_add-feed : goal.overflow_add-feed
overflow_add-feed c =
    let ends = ends-at (goal.at.overflow_add-feed c).After-digits-wide in
    omega (arith, ends, c.requires)

pub overflow_add-end : goal.overflow_add-end
overflow_add-end c =
    let ends = ends-at (goal.at.overflow_add-end c).After-digits-wide in
    omega (arith, ends, c.requires)

pub returns-then-room-end : goal.returns-then-room-end
returns-then-room-end c =
    let ends = ends-at (goal.at.returns-then-room-end c).After-digits-wide in
    (ends, λ fits. absurd (omega arith))

pub bounds-room-letter : goal.bounds-room-letter
bounds-room-letter c = simp length-set (omega arith)

pub bounds-room-space : goal.bounds-room-space
bounds-room-space c = simp length-set (omega arith)

pub lay_number-requires : goal.lay_number-requires
lay_number-requires c =
    let front_long = front-long c.args.room.now c.args.at in
    (c.digits-long.ensures, omega (arith, front_long))

pub bounds-room-blank : goal.bounds-room-blank
bounds-room-blank c =
    let front_long = front-long c.args.room.now c.args.at in
    omega (arith, c.lay_number.auto.room, front_long)

pub lay_number-requires-2 : goal.lay_number-requires-2
lay_number-requires-2 c =
    let front_long = front-long c.args.room.now c.args.at in
    (c.digits-wide.ensures, simp length-set (omega (arith, c.lay_number.auto.room, front_long)))

pub bounds-room-feed : goal.bounds-room-feed
bounds-room-feed c =
    let second-long = second-at (goal.at.bounds-room-feed c).After-lay_number in
    omega (arith, c.lay_number-2.auto.room, second-long)

pub shape_of-room : goal.shape_of-room
shape_of-room c =
    let second-long = second-at (goal.at.shape_of-room c).After-lay_number in
    simp length-set (c.lay_number-2.auto.room ∙ second-long)

pub returns : goal.returns
returns c =
    let ends = ends-at (goal.at.returns c).After-digits-wide in
    let a = c.args in
    let room = a.room.now in
    let x = a.no in
    let one = c.lay_number in
    let two = c.lay_number-2 in
    let blank = a.at + 3 + c.digits-long.result in
    let feed = blank + 1 + c.digits-wide.result in
    let r1 = set room a.at 110 in
    let r2 = set r1 (a.at + 1) 111 in
    let r3 = set r2 (a.at + 2) 32 in
    let r4 = one.new.room in
    let r5 = set r4 blank 32 in
    let r6 = two.new.room in (
      ends,
      λ fits.
          (lays-no x a.at c.number-number.result room (a.at + 1) (a.at + 2) (a.at + 3) blank (blank + 1) feed (feed + 1) r1 r2 r3 r4 r5 r6 (set r6 feed 10) c.number-number.ensures
          (refl, λ h. byte-laid 110 a.at room (omega arith)) (length-set room a.at 110)
          (second a.at, λ h. byte-laid 111 (a.at + 1) r1 (omega (arith, length-set room a.at 110))) (length-set r1 (a.at + 1) 111)
          (third a.at, λ h. byte-laid 32 (a.at + 2) r2 (omega (arith, length-set room a.at 110, length-set r1 (a.at + 1) 111))) (length-set r2 (a.at + 2) 32)
          (ap (a.at + 3 +◌) c.digits-long.ensures, λ h. one.ensures) one.auto.room
          (refl, λ h. byte-laid 32 blank r4 (omega arith)) (length-set r4 blank 32)
          (ap (blank + 1 +◌) c.digits-wide.ensures, λ h. two.ensures) two.auto.room
          (refl, λ h. byte-laid 10 feed r6 (omega arith)) (length-set r6 feed 10)
          ).1 fits,
    )
