-- SPDX-License-Identifier: GPL-2.0-only
-- The lists of idle ids are empty if those that are printed are.
use Rattle.shr_audit_tables.proofs.Common.{◌≡◌, ℕ, suc, ◌%◌, ◌<◌, ◌≤◌, ◌⊎◌, inl, inr, Bool, false, List, [], ◌∷◌, length, get_or, map, Some, None, refl, sym, ap, subst, ◌∙◌, arith, ne_eqb, ◌==◌, slice_get, Decides, cases_lt, Decides-like, slice_get-get_or, Place, PoolEntry, PlaceEnd, phase_of, Report, EachItem, IdState, AreStates, AreIdleEmpty, IsEmptyIfIdle, IsIdleIn, NonePast, journal_of, journals_of, IsEmptyAt}
use Rattle.shr_base.specs.declared.objects.Object.{Object}
use Rattle.shr_model.specs.Families.{lists_moved_at}
use Rattle.shr_audit_case.specs.declared.tags.Tag.{Tag}
use Rattle.shr_audit_case.specs.Tags.{tag_of}
use Rattle.shr_audit_case.specs.Places.{end_printed}
use Rattle.shr_audit_case.proofs.Firsts.{IsFound, found_or_none}
use Rattle.shr_audit_case.proofs.Telling.{no_items}

pub none_decided : (items : List Object) (left : List Tag) (b : Bool) → left ≡ map tag_of items → b ≡ (length left == 0) → Decides b (items ≡ [])
none_decided [] left b same is = (λ t. refl, λ e. is ∙ ap (λ (l : List Tag). length l == 0) same)
none_decided (o ∷ os) left b same is =
    let not : b ≡ false = is ∙ ap (λ (l : List Tag). length l == 0) same ∙ ne_eqb (suc (length (map tag_of os))) 0 (λ e. absurd (omega (arith, e))) in
    (λ t. absurd cc, λ e. absurd cc)

idle_in : (es : List PoolEntry) (states : List IdState) (id : ℕ) → AreStates es states → phase_of id es % 3 ≡ 0 → IsIdleIn states id
idle_in es states id are idle x at = ap (λ (v : IdState). v.phase % 3) (are id x at) ∙ idle

in_idle : (es : List PoolEntry) (states : List IdState) (id : ℕ) → AreStates es states → NonePast (length states) es → IsIdleIn states id → phase_of id es % 3 ≡ 0
in_idle es states id are past h = by_past (cases_lt id (length states))
  where
    by_past : (id < length states) ⊎ (length states ≤ id) → phase_of id es % 3 ≡ 0
    by_past (inl lt) =
        let d : IdState = record { phase = 0; decl = 0; from = 0; last = 0 } in
        let at = slice_get-get_or states id d lt in
        sym (ap (λ (v : IdState). v.phase % 3) (are id (get_or states id d) at)) ∙ h (get_or states id d) at
    by_past (inr ge) = ap (λ (n : ℕ). n % 3) (past id ge)

-- what is decided of the lists that are printed is so of all
pub idle_decided : (parents : List ℕ) (r : Report) (states : List IdState) (ends : List PlaceEnd) (b : Bool) → AreStates r.pool.items states → NonePast (length states) r.pool.items → ends ≡ r.places.items
    → Decides b (EachItem (λ (end : PlaceEnd). IsEmptyIfIdle parents r states end.place) ends) → Decides b (AreIdleEmpty parents r)
idle_decided parents r states ends b are past same d = Decides-like b to from d
  where
    to : EachItem (λ (end : PlaceEnd). IsEmptyIfIdle parents r states end.place) ends → AreIdleEmpty parents r
    to h place idle = by_place (found_or_none r.places.items place)
      where
        by_place : (end_printed r.places.items place ≡ None) ⊎ ((k : ℕ) × ((end : PlaceEnd) × IsFound r.places.items place k end)) → IsEmptyAt parents r place
        by_place (inl none) = no_items (lists_moved_at parents (journals_of r) place) (journals_of r place) (ap journal_of none)
        by_place (inr (k, (end, found))) =
            let at : slice_get ends k ≡ Some end = ap (λ (l : List PlaceEnd). slice_get l k) same ∙ found.at in
            let here : IsEmptyIfIdle parents r states place = subst (λ (p : Place). IsEmptyIfIdle parents r states p) found.same (h k end at) in
            here (idle_in r.pool.items states place.id are idle)

    from : AreIdleEmpty parents r → EachItem (λ (end : PlaceEnd). IsEmptyIfIdle parents r states end.place) ends
    from law n end at idle = law end.place (in_idle r.pool.items states end.place.id are past idle)
