-- The lines of a text one after the other, as the code meets them.
use mathlib.Core.Path.{◌≡◌, refl, sym, ap, subst⁻¹, ◌∙◌}
use mathlib.Core.Bool.{Bool, true, false}
use mathlib.Core.List.{List}
use Prim.Native.Nat.{ℕ, ◌+◌, ◌-◌, ◌≤◌, ◌<◌}
use native.Mathlib.Omega.{arith}
use borrow.Author.Tests.{lt-ltb, le-ltb}
use lib.ListN.{length, get_or, take, drop, length-take}
use lib.Seq.{length-take-le}
use Rattle.plan.specs.Lines.{lines_of, past_blanks}
use Rattle.plan.specs.Passes.{line_length}
use Rattle.script.specs.declared.Due.{Due}
use Rattle.script.specs.declared.Line.{Line}
use Rattle.script.specs.declared.Line.TheVariants.{Takes, Passed, Unclear}
use Rattle.script.specs.Forms.{forms, most_fields, ended}
use Rattle.script.specs.Stages.{letter_of, first_due, due_after}
use Rattle.script.specs.Scripts.{LineSaying, takes, passes, unclear, first_says, line_says, tells, unclear_at, more_at, roomless, on_line, tells_from, telling, script_if_room, line_in}
use Rattle.script.proofs.RowLaws.{line-more, no_lines}

-- ---- one line

module _ (letter : ℕ) (line l : List ℕ) where
  pub line-passes : ended line ≡ true → passes ≡ line_says letter line l
  unfolding line_says
  line-passes h = rw h

  pub line-says : (s : List ℕ) → ended line ≡ false → s ≡ past_blanks true line → first_says forms letter s l ≡ line_says letter line l
  unfolding line_says
  line-says s h e = rw (h, e)

-- ---- the room that is asked for

module _ (most size : ℕ) (text : List ℕ) where
  pub script-small : size < most + most_fields → roomless ≡ script_if_room most size text
  unfolding script_if_room
  script-small h = rw (lt-ltb size (most + most_fields) h)

  pub script-room : most + most_fields ≤ size → telling most text ≡ script_if_room most size text
  unfolding script_if_room
  script-room h = rw (le-ltb size (most + most_fields) h)

-- ---- before a line: n fields stand in the room, and the text is read up to a place

abbrev pub Told : List ℕ → ℕ → ℕ → List ℕ → Due → ℕ → ℕ → ℕ → Type 0
Told text most size room due n number at =
    (at ≤ length text + 1)
    × (number ≤ at + 1)
    × (n ≤ most)
    × (most + most_fields ≤ length room)
    × (length room ≡ size)
    × (telling most text ≡ tells_from most number due (take n room) (lines_of (drop at text)))

pub told-first : (text room : List ℕ) (most : ℕ) → most + most_fields ≤ length room → Told text most (length room) room first_due 0 1 0
unfolding telling
told-first text room most h = (omega arith, omega arith, omega arith, h, refl, refl)

module _ (text : List ℕ) (most size : ℕ) (room : List ℕ) (due : Due) (n number at : ℕ) (inv : Told text most size room due n number at) where
  pub told-end : length text ≤ at → telling most text ≡ tells (take n room)
  unfolding tells_from
  told-end h = inv.5 ∙ ap (tells_from most number due (take n room)) (no_lines text at h)

  module _ (end : ℕ) (e : end ≡ at + line_length (drop at text)) (h : at < length text) (inside : end ≤ length text) (exit : List ℕ) (same : take n exit ≡ take n room) (kept : length exit ≡ length room)
      (r : Line) (says : line_in r exit ≡ line_says (letter_of due.stage due.edition) (take (end - at) (drop at text)) (take n room)) where
    turn : (x : LineSaying) → x ≡ line_in r exit
        → telling most text ≡ on_line x most number due (take n room) (λ next m. tells_from most (number + 1) next m (lines_of (drop (end + 1) text)))
    unfolding tells_from
    turn x q =
        inv.5 ∙ ap (tells_from most number due (take n room)) (line-more text at end e h)
        ∙ ap (λ (y : LineSaying). on_line y most number due (take n room) (λ next m. tells_from most (number + 1) next m (lines_of (drop (end + 1) text)))) (sym (q ∙ says))

    pub told-unclear : r ≡ Unclear → telling most text ≡ unclear_at number
    told-unclear q = turn unclear (sym (ap (λ (x : Line). line_in x exit) q))

    pub told-passed : r ≡ Passed → Told text most size exit due n (number + 1) (end + 1)
    told-passed q = (
      omega arith,
      omega (arith, inv.1, e),
      inv.2,
      omega (arith, inv.3, kept),
      kept ∙ inv.4,
      turn passes (sym (ap (λ (x : Line). line_in x exit) q)) ∙ ap (λ (l : List ℕ). tells_from most (number + 1) due l (lines_of (drop (end + 1) text))) (sym same),
    )

    module _ (m : ℕ) (loose : Bool) (q : r ≡ Takes m loose) where
      taken : telling most text ≡ on_line (takes (take m exit) loose) most number due (take n room) (λ next l. tells_from most (number + 1) next l (lines_of (drop (end + 1) text)))
      taken = turn (takes (take m exit) loose) (sym (ap (λ (x : Line). line_in x exit) q))

      pub told_more : most < m → telling most text ≡ more_at number
      told_more k = taken ∙ rw (lt-ltb most (length (take m exit)) (omega (arith, length-take m exit, inv.3, kept)))

      pub told-takes : m ≤ most → (first : ℕ) → first ≡ get_or (take m exit) n 0
          → Told text most size exit (due_after due loose first) m (number + 1) (end + 1)
      told-takes k first f =
          let few = length-take-le m exit (omega (arith, inv.3, kept)) in
          let before = length-take-le n room (omega (arith, inv.2, inv.3)) in (
            omega arith,
            omega (arith, inv.1, e),
            k,
            omega (arith, inv.3, kept),
            kept ∙ inv.4,
            taken ∙ rw (le-ltb most (length (take m exit)) (omega (arith, few)), before, f),
          )

pub told-as : (text : List ℕ) (most size : ℕ) (room : List ℕ) (number at : ℕ) {due other : Due} {n m : ℕ} → other ≡ due → m ≡ n
    → Told text most size room due n number at → Told text most size room other m number at
told-as text most size room number at {due} {other} {n} {m} p q h =
    subst⁻¹ (λ (d : Due). Told text most size room d m number at) p (subst⁻¹ (λ (k : ℕ). Told text most size room due k number at) q h)
