-- What is promised of the text of a book holds.
use mathlib.Core.Path.{◌≡◌, sym, ap, ◌∙◌}
use mathlib.Core.List.{List, [], ◌∷◌}
use Prim.Native.Nat.{ℕ, ◌≤◌}
use native.Mathlib.Omega.{arith}
use borrow.Author.Tests.{le-ltb}
use lib.ListN.{length, drop, length-append}
use lib.Seq.{take-append_seam}
use Rattle.laws.proofs.Decisions.{lt-or}
use Rattle.terms.specs.Limits.{most_bytes}
use Rattle.terms.specs.declared.Refusal.TheVariants.{TooLong}
use Rattle.terms.specs.declared.Verdict.TheVariants.{Accepted, Refused}
use Rattle.number.specs.Number.{ceiling_of, encode}
use Rattle.number.specs.declared.Edition.{Edition}
use Rattle.number.specs.declared.Edition.TheVariants.{First, Second}
use Rattle.number.specs.Promises.{Bytes}
use Rattle.number.proofs.NumbersHold.{numbers}
use Rattle.packing.specs.Fields.{encodes, whole, fields_of}
use Rattle.packing.specs.Promises.{Under}
use Rattle.packing.proofs.PackingHolds.{packing}
use Rattle.tables.specs.Reading.{edition_of}
use Rattle.tables.specs.declared.Circles.TheVariants.{Forbidden}
use Rattle.book.specs.Reading.{reading_of}
use Rattle.book.specs.Packing.{book_fields, fields_in, write_outcome, written_room}
use Rattle.book.proofs.DemandsHold.{demand1, demand2}
use Rattle.script.specs.Forms.{largest}
use Rattle.script.specs.Promises.{ShownBack, TextBack}
use Rattle.script.proofs.TextBackLaws.{line_back, script-back}

-- ---- a book has at least as many bytes as fields

fields-few : (l : List ℕ) → length l ≤ length (encodes l)
unfolding encodes
fields-few [] = omega arith
fields-few (v ∷ l) =
    let w = numbers.width v in
    omega (arith, length-append (encode v) (encodes l), w.0, w.1.0, fields-few l)

under_all : (ed : Edition) (l : List ℕ) → Under (ceiling_of ed) l → Under largest l
under_all First l h i = omega (arith, h i)
under_all Second l h i = omega (arith, h i)

module _ (s : List ℕ) (bytes : Bytes s) (ok : (reading_of s).answer ≡ Accepted) where
  short : length s ≤ most_bytes
  short =
      lt-or most_bytes (length s)
      (λ h. let z : Accepted ≡ Refused TooLong = sym ok ∙ (demand1.too_long Forbidden (edition_of s) s h).0 in let f : ◌≡◌ {A = ℕ} 0 1 = cc in absurd (omega arith))
      (λ h. h)

  all : (l : List ℕ) × (fields_of (ceiling_of (edition_of s)) s ≡ whole l)
  all = demand2.accepted_whole Forbidden (edition_of s) s ok

  its-fields : book_fields s ≡ all.0
  its-fields = ap fields_in all.1

  its-bytes : encodes (book_fields s) ≡ s
  its-bytes = ap encodes its-fields ∙ sym (packing.bytes_back (ceiling_of (edition_of s)) s bytes all.0 all.1)

  its-under : Under largest (book_fields s)
  its-under i =
      let u = under_all (edition_of s) all.0 (packing.under (ceiling_of (edition_of s)) s bytes all.0 all.1) in
      rw its-fields (u i)

  shown-back : ShownBack s
  unfolding write_outcome written_room
  shown-back = record {
    says = script-back most_bytes (book_fields s) its-under (omega (arith, short, fields-few (book_fields s), ap length its-bytes));
    written = λ room h. (
      rw (its-bytes, ok, le-ltb (length room) (length s) h),
      rw (its-bytes, ok, le-ltb (length room) (length s) h) (take-append_seam s (drop (length s) room)),
    );
  }

pub text-back : TextBack
text-back = record { line_back = λ due v rest l u. line_back due v rest l u; fields_back = script-back; book_back = shown-back }
