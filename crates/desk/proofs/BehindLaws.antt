-- One item behind a book: the book's own items stay, and it is the last.
use Prim.Native.Nat.{ℕ, zero, suc, ◌+◌, ◌-◌, ◌≤◌, ◌<◌}
use native.Mathlib.Omega.{arith}
use mathlib.Core.Path.{◌≡◌, refl, sym, ap, ◌∙◌, subst⁻¹}
use mathlib.Core.List.{List, [], ◌∷◌, ◌++◌}
use lib.ListN.{length, take}
use lib.Seq.{take_at}
use Rattle.terms.specs.declared.Refusal.TheVariants.{NotInTables}
use Rattle.terms.specs.declared.Verdict.{Verdict}
use Rattle.terms.specs.declared.Verdict.TheVariants.{Accepted, Refused}
use Rattle.items.specs.Items.{item_at, items_after, onward}
use Rattle.items.specs.declared.Item.{Item}
use Rattle.items.specs.declared.Item.TheVariants.{BadMark, Ends, Stops, Takes}
use Rattle.items.proofs.ItemLaws.{Goes, goes-inside, item-end, item-ends, item-extends}
use Rattle.items.proofs.LeftLaws.{left_step}
use Rattle.number.specs.declared.Edition.{Edition}
use Rattle.tables.specs.declared.Tables.{Tables}
use Rattle.rules.specs.declared.State.{State}
use Rattle.judge.specs.Judge.{judged}
use Rattle.histories.specs.Histories.{run}
use Rattle.book.proofs.ReadLaws.{not-accepted, verdict-cases}
use Rattle.onward.specs.Onward.{answer_in, events_in, no_at, no_by, noted_at, place_in, refused_from}
use Rattle.onward.specs.Promises.{AllEvents}
use Rattle.onward.specs.declared.Judgement.{Judgement}
use Rattle.onward.specs.declared.No.{No}
use Rattle.onward.proofs.OnwardLaws.{from-denied, from-ended, from-marked, from-took, judgement_from}

-- ---- the items of both

module _ (ed : Edition) (s x : List ℕ) (item : Item) (goes : Goes item (length (s ++ x))) (there : item_at ed (s ++ x) (length s) ≡ item) where
  -- from a place on, where the book has nothing but events
  abbrev pub Longer : ℕ → Type 0
  Longer at = (items_after ed (s ++ x) at ≡ items_after ed s at ++ (item ∷ [])) × AllEvents (items_after ed s at)

  front : take (length s) (s ++ x) ≡ s
  front = take_at s x (length s) refl

  -- what stands in the book stands in both
  stays : (at : ℕ) (y : Item) (next : ℕ) → Goes y next → item_at ed s at ≡ y → item_at ed (s ++ x) at ≡ y
  stays at y next g i = item-extends ed (s ++ x) at y next (length s) g (ap (λ (l : List ℕ). item_at ed l at) front ∙ i)

  none_left : items_after ed (s ++ x) (length (s ++ x)) ≡ []
  none_left = left_step ed (s ++ x) (length (s ++ x)) ∙ ap (λ (y : Item). onward y (items_after ed (s ++ x))) (item-end ed (s ++ x) (length (s ++ x)) (omega arith))

  by-goes : (y : Item) → Goes y (length (s ++ x)) → onward y (items_after ed (s ++ x)) ≡ y ∷ []
  by-goes (Takes e pu next) g = ap (λ (l : List Item). Takes e pu next ∷ l) (ap (items_after ed (s ++ x)) g ∙ none_left)
  by-goes (BadMark next) g = ap (λ (l : List Item). BadMark next ∷ l) (ap (items_after ed (s ++ x)) g ∙ none_left)
  by-goes (Stops r p) g = absurd g
  by-goes Ends g = absurd g

  last_one : items_after ed (s ++ x) (length s) ≡ item ∷ []
  last_one = left_step ed (s ++ x) (length s) ∙ ap (λ (y : Item). onward y (items_after ed (s ++ x))) there ∙ by-goes item goes

  abbrev Fine : ℕ → Type 0
  Fine at = answer_in (items_after ed s at) ≡ Accepted

  turn : (at : ℕ) → at ≤ length s → (y : Item) → item_at ed s at ≡ y → Fine at → ((next : ℕ) → at < next → next ≤ length s → Fine next → Longer next) → Longer at
  unfolding answer_in
  turn at low (Takes e pu next) i fine later =
      let own = left_step ed s at ∙ ap (λ (z : Item). onward z (items_after ed s)) i in
      let both = left_step ed (s ++ x) at ∙ ap (λ (z : Item). onward z (items_after ed (s ++ x))) (stays at (Takes e pu next) next refl i) in
      let g = goes-inside ed s at (Takes e pu next) next refl i in
      let l = later next g.later g.ends (sym (ap answer_in own) ∙ fine) in (
        both ∙ ap (λ (z : List Item). Takes e pu next ∷ z) l.0 ∙ ap (λ (z : List Item). z ++ (item ∷ [])) (sym own),
        subst⁻¹ AllEvents own (tt, l.1),
      )
  turn at low (BadMark next) i fine later =
      let own = left_step ed s at ∙ ap (λ (z : Item). onward z (items_after ed s)) i in
      let both = left_step ed (s ++ x) at ∙ ap (λ (z : Item). onward z (items_after ed (s ++ x))) (stays at (BadMark next) next refl i) in
      let g = goes-inside ed s at (BadMark next) next refl i in
      let l = later next g.later g.ends (sym (ap answer_in own) ∙ fine) in (
        both ∙ ap (λ (z : List Item). BadMark next ∷ z) l.0 ∙ ap (λ (z : List Item). z ++ (item ∷ [])) (sym own),
        subst⁻¹ AllEvents own (tt, l.1),
      )
  turn at low (Stops r p) i fine later =
      let own = left_step ed s at ∙ ap (λ (z : Item). onward z (items_after ed s)) i in
      not-accepted (sym (ap answer_in own) ∙ fine)
  turn at low Ends i fine later =
      let own = left_step ed s at ∙ ap (λ (z : Item). onward z (items_after ed s)) i in
      let end : at ≡ length s = omega (arith, item-ends ed s at i) in (
        ap (items_after ed (s ++ x)) end ∙ last_one ∙ ap (λ (z : List Item). z ++ (item ∷ [])) (sym own),
        subst⁻¹ AllEvents own tt,
      )

  longer-by : (k at : ℕ) → length s - at ≤ k → at ≤ length s → Fine at → Longer at
  longer-by zero at h low fine = turn at low (item_at ed s at) refl fine (λ next l ends f. absurd (omega arith))
  longer-by (suc k) at h low fine = turn at low (item_at ed s at) refl fine (λ next l ends f. longer-by k next (omega arith) ends f)

  pub longer : (at : ℕ) → at ≤ length s → Fine at → Longer at
  longer at low fine = longer-by (length s) at (omega arith) low fine

-- ---- judging on behind events

-- nothing but events ends without a refusal
pub all_end : (items : List Item) → AllEvents items → (answer_in items ≡ Accepted) × (place_in items ≡ 0)
unfolding answer_in place_in
all_end [] a = (refl, refl)
all_end (Takes e pu next ∷ l) a = all_end l a.1
all_end (BadMark next ∷ l) a = all_end l a.1
all_end (Stops r p ∷ l) a = absurd a.0
all_end (Ends ∷ l) a = absurd a.0

module _ (ed : Edition) (tables : Tables) (more : List Item) where
  abbrev behind : Judgement → Judgement
  behind j = judgement_from ed tables j.state j.records j.events j.refused more

  pub from-append : (items : List Item) → AllEvents items → (s : State) (w : List ℕ) (n m : ℕ)
      → judgement_from ed tables s w n m (items ++ more) ≡ behind (judgement_from ed tables s w n m items)
  from-append [] a s w n m = ap behind (sym (from-ended ed tables s w n m))
  from-append (Takes e pu next ∷ l) a s w n m =
      let t = (judged tables s e).state in
      let noted = noted_at s.ops.count t.ops.count pu w in
      verdict-cases (judged tables s e).verdict
      (λ v.
      from-took ed tables s w n m e pu next (l ++ more) v
      ∙ from-append l a.1 t noted (n + 1) m
      ∙ ap behind (sym (from-took ed tables s w n m e pu next l v)))
      (λ r v.
      from-denied ed tables s w n m e pu next (l ++ more) r v
      ∙ from-append l a.1 t noted n (m + 1)
      ∙ ap behind (sym (from-denied ed tables s w n m e pu next l r v)))
  from-append (BadMark next ∷ l) a s w n m =
      from-marked ed tables s w n m next (l ++ more) ∙ from-append l a.1 s w n (m + 1) ∙ ap behind (sym (from-marked ed tables s w n m next l))
  from-append (Stops r p ∷ l) a s w n m = absurd a.0
  from-append (Ends ∷ l) a s w n m = absurd a.0

-- ---- and the refused events

by_front : (v : Verdict) (i : ℕ) (xs ys : List No) → no_by v i (xs ++ ys) ≡ no_by v i xs ++ ys
by_front Accepted i xs ys = refl
by_front (Refused r) i xs ys = refl

module _ (tables : Tables) (more : List Item) where
  pub refused-append : (items : List Item) → AllEvents items → (s : State) (i : ℕ)
      → refused_from tables s i (items ++ more) ≡ refused_from tables s i items ++ refused_from tables (run tables s (events_in items)) (i + length items) more
  unfolding refused_from events_in run
  refused-append [] a s i = ap (λ (k : ℕ). refused_from tables s k more) (omega arith)
  refused-append (Takes e pu next ∷ l) a s i =
      ap (no_by (judged tables s e).verdict i)
      (refused-append l a.1 (judged tables s e).state (i + 1)
      ∙ ap (λ (k : ℕ). refused_from tables (judged tables s e).state (i + 1) l ++ refused_from tables (run tables (judged tables s e).state (events_in l)) k more) (omega arith))
      ∙ by_front (judged tables s e).verdict i (refused_from tables (judged tables s e).state (i + 1) l)
      (refused_from tables (run tables (judged tables s e).state (events_in l)) (i + suc (length l)) more)
  refused-append (BadMark next ∷ l) a s i =
      ap (λ (z : List No). no_at i NotInTables ∷ z)
      (refused-append l a.1 s (i + 1)
      ∙ ap (λ (k : ℕ). refused_from tables s (i + 1) l ++ refused_from tables (run tables s (events_in l)) k more) (omega arith))
  refused-append (Stops r p ∷ l) a s i = absurd a.0
  refused-append (Ends ∷ l) a s i = absurd a.0
