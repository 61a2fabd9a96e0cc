-- SPDX-License-Identifier: GPL-2.0-only
-- Whether a place is printed once, and whether answers cite such places.
use Rattle.shr_audit_replies.proofs.OnceCommon.{◌≡◌, ℕ, zero, suc, ◌+◌, ◌<◌, ◌≤◌, List, [], ◌∷◌, length, get_or, Some, refl, sym, subst, ◌∙◌, inl, inr, arith, slice_get, Decides, PlaceEnd, Place, AreInOrder, IsCitedOnceAt, IsPrintedOnce, Bool, true, false, Option, None, ap, not, option_and_then, option_map, IsFirst, IsIndexOf, end_printed}
use Rattle.std.proofs.lemmas.Bool.{cases_Bool, cases_lt}
use Rattle.std.proofs.lemmas.Option.{get_or_from_slice_get, slice_get-get_or, slice_get_past, slice_get_within}
use Rattle.shr_base.specs.declared.ends.WorkerPart.{WorkerPart}
use Rattle.shr_base.specs.declared.places.At.{At}
use Rattle.shr_base.specs.declared.replies.Answered.{Answered}
use Rattle.shr_model.specs.Places.{is_place}
use Rattle.shr_model.proofs.PlacesLaws.{is_place_same}
use Rattle.shr_audit_case.proofs.Firsts.{first_found, found_or_none, none_first}
use Rattle.shr_laws.specs.declared.report.Report.{Report}
use Rattle.shr_laws.specs.Parts.{answer_at, answers_in, answers_of, cited_at, cited_by, serial_of}
use Rattle.shr_audit_replies.proofs.OnceOrder.{not_again}
use Rattle.shr_model.proofs.Lists.{some_injective}

none_some : {X : Type 0} (x : X) → ◌≡◌ {A = Option X} None (Some x) → ⊥
none_some x e = cc

-- a place that isn't found is printed nowhere
none_all : (ends : List PlaceEnd) (place : Place) (k : ℕ) (end : PlaceEnd) → end_printed ends place ≡ None → slice_get ends k ≡ Some end → end.place ≡ place → ⊥
none_all [] place k end none at same = let lt = slice_get_within [] k end at in absurd (omega (arith, lt))
none_all (e ∷ es) place zero end none at same =
    let here : e.place ≡ place = ap (λ (x : PlaceEnd). x.place) (some_injective e end at) ∙ same in
    none_some e (sym none ∙ first_found (e ∷ es) place 0 e refl here (none_first (e ∷ es) place))
none_all (e ∷ es) place (suc k) end none at same = elim (cases_Bool (is_place e.place place)) [
  | inl own ↦ none_some e (sym none ∙ first_found (e ∷ es) place 0 e refl (is_place_same e.place place own) (none_first (e ∷ es) place))
  | inr other ↦ none_all es place k end (let step : end_printed (e ∷ es) place ≡ end_printed es place = rw other refl in sym step ∙ none) at same
]

pub none_printed : (ends : List PlaceEnd) (place : Place) → end_printed ends place ≡ None → Decides true (IsPrintedOnce ends place)
none_printed ends place none = (λ t k end at same. absurd (none_all ends place k end none at same), λ h. refl)

-- the list at the index of a place is printed for it
own_place : (ends : List PlaceEnd) (place : Place) (k : ℕ) (d : PlaceEnd) → IsIndexOf ends place k → (get_or ends k d).place ≡ place
own_place ends place k d index = elim (found_or_none ends place) [
  | inl none ↦ absurd (none_some (get_or ends k d) (sym none ∙ sym index.at ∙ slice_get-get_or ends k d index.within))
  | inr found ↦ ap (λ (x : PlaceEnd). x.place) (get_or_from_slice_get ends k found.1.0 d (index.at ∙ found.1.1.found)) ∙ found.1.1.same
]

module _ (ends : List PlaceEnd) (place : Place) (k : ℕ) (index : IsIndexOf ends place k) where
  -- nothing is printed for it before, and here it is first
  not_behind : ((j : ℕ) (end : PlaceEnd) → k < j → slice_get ends j ≡ Some end → end.place ≡ place → ⊥) → IsPrintedOnce ends place
  not_behind none j end at same = elim (cases_lt j k) [
    | inl before ↦ absurd (index.first j end before at same)
    | inr from ↦ elim (cases_lt k j) [
      | inl past ↦ absurd (none j end past at same)
      | inr upto ↦ (let e : k ≡ j = omega (arith, from, upto) in subst (λ (n : ℕ). IsFirst ends n place) e index.first)
    ]
  ]

  pub last_one : length ends ≤ k + 1 → Decides true (IsPrintedOnce ends place)
  last_one over = (λ t. not_behind (λ j end past at same. let lt = slice_get_within ends j end at in absurd (omega (arith, over, past, lt))), λ h. refl)

  pub next_decides : AreInOrder ends → (d : PlaceEnd) (b : Bool) → k + 1 < length ends → Decides b ((get_or ends (k + 1) d).place ≡ place) → Decides (not b) (IsPrintedOnce ends place)
  next_decides order d b there tells = by b tells
    where
      own : (get_or ends k d).place ≡ place
      own = own_place ends place k d index

      by : (c : Bool) → Decides c ((get_or ends (k + 1) d).place ≡ place) → Decides (not c) (IsPrintedOnce ends place)
      by true e = (λ t. absurd cc, λ h. absurd (h (k + 1) (get_or ends (k + 1) d) (slice_get-get_or ends (k + 1) d there) (e.0 refl) k (get_or ends k d) (omega arith) (slice_get-get_or ends k d index.within) own))
      by false e = (
        λ t. not_behind (λ j end past at same.
            not_again ends order d place k j own (λ again. let f = e.1 again in absurd cc) past (slice_get_within ends j end at)
            (ap (λ (x : PlaceEnd). x.place) (get_or_from_slice_get ends j end d at) ∙ same)),
        λ h. refl,
      )

-- ---- answers

module _ (r : Report) (worker k : ℕ) where
  pub no_answer : None ≡ answer_at r (serial_of worker k) → Decides true (IsCitedOnceAt r worker k)
  no_answer none = (λ t c e. absurd (none_some c (ap (λ (o : Option Answered). option_and_then cited_by (option_map (λ (a : Answered). a.reply) o)) none ∙ e)), λ h. refl)

  module _ (a : Answered) (here : Some a ≡ answer_at r (serial_of worker k)) where
    cited : cited_by a.reply ≡ cited_at r (serial_of worker k)
    cited = ap (λ (o : Option Answered). option_and_then cited_by (option_map (λ (x : Answered). x.reply) o)) here

    pub cites_none : None ≡ cited_by a.reply → Decides true (IsCitedOnceAt r worker k)
    cites_none none = (λ t c e. absurd (none_some c (none ∙ cited ∙ e)), λ h. refl)

    pub cites_one : (c : At) (b : Bool) → Some c ≡ cited_by a.reply → Decides b (IsPrintedOnce r.places.items c.place) → Decides b (IsCitedOnceAt r worker k)
    cites_one c b one d = (
      λ t x e. subst (λ (y : At). IsPrintedOnce r.places.items y.place) (some_injective c x (one ∙ cited ∙ e)) (d.0 t),
      λ h. d.1 (h c (sym cited ∙ sym one)),
    )

-- past the last answer
pub past_once : (r : Report) (worker k : ℕ) → length (answers_of r worker) ≤ k → IsCitedOnceAt r worker k
past_once r worker k over c e =
    let none : answer_at r (serial_of worker k) ≡ None = slice_get_past (answers_of r worker) k over in
    absurd (none_some c (sym (ap (λ (o : Option Answered). option_and_then cited_by (option_map (λ (a : Answered). a.reply) o)) none) ∙ e))

pub past_workers : (r : Report) (worker k : ℕ) → length r.workers.items ≤ worker → IsCitedOnceAt r worker k
past_workers r worker k over = past_once r worker k (let none = ap (λ (o : Option WorkerPart). length (answers_in o)) (slice_get_past r.workers.items worker over) in omega (arith, none))
