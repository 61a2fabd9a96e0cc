-- SPDX-License-Identifier: GPL-2.0-only
-- What a group's state by a legal journal says of its entries.
use Rattle.shr_charge.proofs.Common.{◌≡◌, ℕ, ◌+◌, Bool, true, false, not, ◌||◌, List, take, sym, refl, subst, ◌∙◌, ⊎_elim, arith, Option, Some, None, is_some, cases_Bool, none-some, TreeEntry, Hierarchy, IsHierarchy, is_later, begin_of, done_of, made_of, is_made, IsTreeJournal, Done, Online, Offline, NotMade, begun_state, state_at, WasState}
use Rattle.shr_charge.proofs.Entries.{begun_made}
use Rattle.shr_charge.proofs.Journaling.{was_state, state_made}
use Rattle.shr_charge.proofs.TreeFacts.{begin_at, done_at, begin_found, in_take, take_below, begun_before, begin_once}

no_one : (x : Option ℕ) → ((n : ℕ) → x ≡ Some n → ⊥) → x ≡ None
no_one None never = refl
no_one (Some n) never = absurd (never n refl)

online_none : (x : Option ℕ) → begun_state x ≡ Online → x ≡ None
online_none None e = refl
online_none (Some n) e = absurd (let c : Offline n ≡ Online = e in cc)

never_not_made : (x : Option ℕ) → begun_state x ≡ NotMade → ⊥
never_not_made None e = let c : Online ≡ NotMade = e in cc
never_not_made (Some n) e = let c : Offline n ≡ NotMade = e in cc

none_made : (late : Bool) (x : Option ℕ) → (not late || is_some x) ≡ false → x ≡ None
none_made late None e = refl
none_made true (Some n) e = absurd (let c : true ≡ false = e in cc)
none_made false (Some n) e = absurd (let c : true ≡ false = e in cc)

module _ (h : Hierarchy) (es : List TreeEntry) (g : ℕ) where
  -- a group that is offline began by the entry that its state names
  pub offline_begun : (e : ℕ) → state_at h es g ≡ Offline e → begin_of es g ≡ Some e
  offline_begun e is = (subst (WasState h es g) is (was_state h es g)).1

  pub offline_made : (e : ℕ) → state_at h es g ≡ Offline e → is_made h es g ≡ true
  offline_made e is = (subst (WasState h es g) is (was_state h es g)).0

  -- one that is online is made, and didn't begin
  pub online_made : state_at h es g ≡ Online → is_made h es g ≡ true
  online_made is = subst (WasState h es g) is (was_state h es g)

  pub online_fresh : state_at h es g ≡ Online → begin_of es g ≡ None
  online_fresh is = online_none (begin_of es g) (sym (state_made h es g (begin_of es g) (online_made is) refl) ∙ is)

  -- one that isn't made has no Made
  pub absent_not_made : state_at h es g ≡ NotMade → is_made h es g ≡ false
  absent_not_made is = ⊎_elim (λ t. absurd (never_not_made (begin_of es g) (sym (state_made h es g (begin_of es g) t refl) ∙ is))) (λ f. f) (cases_Bool (is_made h es g))

  pub absent_made : state_at h es g ≡ NotMade → made_of es g ≡ None
  absent_made is = none_made (is_later h.later g) (made_of es g) (absent_not_made is)

  module _ (groups : IsHierarchy h) (legal : IsTreeJournal h es) where
    -- and didn't begin
    pub absent_fresh : state_at h es g ≡ NotMade → begin_of es g ≡ None
    absent_fresh is = no_one (begin_of es g) (λ n at. let c : true ≡ false = sym (begun_made h es g n legal at) ∙ absent_not_made is in cc)

    -- a group that didn't begin isn't done
    pub fresh_undone : begin_of es g ≡ None → done_of es g ≡ None
    fresh_undone none = no_one (done_of es g) (λ d at. let t = begun_before h groups es legal g d (done_at es g d at) in let b = begin_found es g t.0 t.1 in none-some b.0 (sym none ∙ b.1))

    -- no Done of a group stands before its Begin, nor there
    pub done_behind : (b : ℕ) → begin_of es g ≡ Some b → done_of (take (b + 1) es) g ≡ None
    done_behind b is = no_one (done_of (take (b + 1) es) g) (λ d found. let here = done_at (take (b + 1) es) g d found in let low = take_below es (b + 1) d (Done g) here in
        let t = begun_before h groups es legal g d (in_take es (b + 1) d (Done g) here) in let same = begin_once h groups es legal g t.0 b t.1 (begin_at es g b is) in let before = t.2 in omega (arith, low, same, before))
