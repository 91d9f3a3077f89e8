-- The whole listing: which refused events it lists, and what laying it into a room does.
use Prim.Native.Nat.{ℕ, ◌+◌, ◌≤◌}
use native.Mathlib.Omega.{arith}
use mathlib.Core.Path.{◌≡◌, refl, sym, ap, ◌∙◌}
use mathlib.Core.List.{List, ◌++◌}
use lib.ListN.{length, take, drop}
use lib.Seq.{take_all}
use Rattle.laws.proofs.Decisions.{lt-or}
use Rattle.std.specs.Prelude.{Some, Ok, Err}
use Rattle.terms.specs.Limits.{most_bytes}
use Rattle.number.specs.declared.Edition.{Edition}
use Rattle.tables.specs.Reading.{TablesAnswer, tables_by, edition_of}
use Rattle.tables.specs.declared.Circles.{Circles}
use Rattle.onward.specs.Onward.{judgement_by, judgement_on, refused_by}
use Rattle.onward.specs.Rooms.{Lays}
use Rattle.onward.specs.declared.Judgement.{Judgement}
use Rattle.onward.proofs.OnwardLaws.{long-read, long-refused, refused_none, refused-there, told-read, told-refused}
use Rattle.onward.proofs.RoomLaws.{laid-front}
use Rattle.listing.specs.Lines.{listed, listing_of, most_listing}
use Rattle.listing.specs.Texts.{put_answer, put_room}
use Rattle.listing.proofs.SizeLaws.{firsts-short, listing-short, nos-of-book}
use Rattle.listing.proofs.TextLaws.{put-done}

-- ---- which refused events are listed

pub listed-short : (r : Judgement) (circles : Circles) (s : List ℕ) → length (listing_of r (listed r circles s)) ≤ most_listing
listed-short r circles s =
    let all = refused_by circles (edition_of s) s in
    listing-short r (listed r circles s) (omega (arith, firsts-short r.refused all, nos-of-book circles (edition_of s) s))

-- the judgement of a book counts them all
module _ (circles : Circles) (ed : Edition) (s : List ℕ) where
  counted : length s ≤ most_bytes → (a : TablesAnswer) → (tables_by circles ed s).answer ≡ a → length (refused_by circles ed s) ≡ (judgement_by circles ed s).refused
  unfolding judgement_on
  counted short (Ok at) e =
      let t = tables_by circles ed s in
      sym (ap length (refused-there circles ed s short t refl at e)) ∙ ap (λ (r : Judgement). r.refused) (told-read circles ed s short t refl at e)
  counted short (Err f) e =
      let t = tables_by circles ed s in
      ap length (refused_none circles ed s short t refl f.refusal f.place e) ∙ ap (λ (r : Judgement). r.refused) (told-refused circles ed s short t refl f.refusal f.place e)

  all-counted : length (refused_by circles ed s) ≡ (judgement_by circles ed s).refused
  all-counted =
      lt-or most_bytes (length s)
      (λ long. ap length (long-refused circles ed s long) ∙ ap (λ (r : Judgement). r.refused) (long-read circles ed s long))
      (λ short. counted short (tables_by circles ed s).answer refl)

  pub all_listed : take (judgement_by circles ed s).refused (refused_by circles ed s) ≡ refused_by circles ed s
  all_listed = take_all (judgement_by circles ed s).refused (refused_by circles ed s) (omega (arith, all-counted))

-- ---- into a room

-- what was laid at the front of a room that holds it was put there
pub laid-put : (l room : List ℕ) (size end : ℕ) (after : List ℕ) → size ≡ 0 + length l → size ≤ length room → Lays 0 l room end after
    → (Some size ≡ put_answer l room) × (after ≡ put_room l room)
laid-put l room size end after e fits (f, same) =
    let long : size ≡ length l = omega arith in
    let done = put-done l room size long fits in
    (done.0, same (omega arith) ∙ laid-front l room ∙ ap (λ (i : ℕ). l ++ drop i room) (sym long) ∙ done.1)
