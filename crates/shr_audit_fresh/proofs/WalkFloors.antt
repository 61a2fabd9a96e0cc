-- SPDX-License-Identifier: GPL-2.0-only
-- The floors of commands by what their walks cite, one walk after another.
use Rattle.shr_audit_fresh.proofs.Common.{◌≡◌, ℕ, ◌<◌, ◌≤◌, Bool, true, false, cond, List, [], ◌∷◌, ◌++◌, length, get_or, refl, sym, ap, subst, ◌∙◌, arith, ◌==◌, ◌&&◌, flat_map, filter, eq-eqb, append-nil, flat_map-append, WalkRecord, is_serial, walk_cited, serial_of, AreFloors, FloorWith, IsFloor, walks_cite, zero_more, set, ne_eqb, get_or-set_same, get_or-set_other, length-set}
use mathlib.Core.Logic.{dite}
use native.Mathlib.Decide.{ℕ_discrete}
use Rattle.std.proofs.lemmas.List.Elements.{filter-append}
use Rattle.shr_audit_fresh.proofs.FloorLaws.{floor_grows, floor_none}

-- what a test keeps of a list with one item more at its head
pub kept : {X : Type 0} (p : X → Bool) (y : X) (ys : List X) (b : Bool) → p y ≡ b → filter p (y ∷ ys) ≡ cond b (y ∷ filter p ys) (filter p ys)
kept p y ys b e = ap (λ (c : Bool). cond c (y ∷ filter p ys) (filter p ys)) e

flat_kept : (w : WalkRecord) (b : Bool) → flat_map (λ (x : WalkRecord). walk_cited x.answer) (cond b (w ∷ []) []) ≡ cond b (walk_cited w.answer) []
flat_kept w true = append-nil (walk_cited w.answer)
flat_kept w false = refl

-- what one walk more has the walks of a command cite
pub one_cites : (worker k : ℕ) (walks : List WalkRecord) (w : WalkRecord) (b : Bool) → is_serial (serial_of worker k) w.by ≡ b → walks_cite worker (walks ++ w ∷ []) k ≡ walks_cite worker walks k ++ cond b (walk_cited w.answer) []
one_cites worker k walks w b e =
    ap (flat_map (λ (x : WalkRecord). walk_cited x.answer)) (filter-append (λ (x : WalkRecord). is_serial (serial_of worker k) x.by) walks (w ∷ []))
    ∙ flat_map-append (λ (x : WalkRecord). walk_cited x.answer) (filter (λ (x : WalkRecord). is_serial (serial_of worker k) x.by) walks) (filter (λ (x : WalkRecord). is_serial (serial_of worker k) x.by) (w ∷ []))
    ∙ ap (λ (ns : List ℕ). walks_cite worker walks k ++ ns) (ap (flat_map (λ (x : WalkRecord). walk_cited x.answer)) (kept (λ (x : WalkRecord). is_serial (serial_of worker k) x.by) w [] b e) ∙ flat_kept w b)

module _ (worker : ℕ) (w : WalkRecord) (floors : List ℕ) where
  pub off_worker : (k : ℕ) → (w.by.worker ≡ worker → ⊥) → is_serial (serial_of worker k) w.by ≡ false
  off_worker k other = ap (λ (b : Bool). b && (k == w.by.command)) (ne_eqb worker w.by.worker (λ same. other (sym same)))

  off_command : (k : ℕ) → (w.by.command ≡ k → ⊥) → is_serial (serial_of worker k) w.by ≡ false
  off_command k other = ap (λ (b : Bool). (worker == w.by.worker) && b) (ne_eqb k w.by.command (λ same. other (sym same))) ∙ never (worker == w.by.worker)
    where
      never : (b : Bool) → (b && false) ≡ false
      never true = refl
      never false = refl

  pub on_command : w.by.worker ≡ worker → is_serial (serial_of worker w.by.command) w.by ≡ true
  on_command same = ap (λ (b : Bool). b && (w.by.command == w.by.command)) (eq-eqb worker w.by.worker (sym same)) ∙ eq-eqb w.by.command w.by.command refl

  stays : (before : List WalkRecord) (k floor : ℕ) → is_serial (serial_of worker k) w.by ≡ false → IsFloor (walks_cite worker before k) floor → IsFloor (walks_cite worker (before ++ w ∷ []) k) floor
  stays before k floor off f = subst (λ (ns : List ℕ). IsFloor ns floor) (sym (one_cites worker k before w false off ∙ append-nil (walks_cite worker before k))) f

  pub other_worker : (w.by.worker ≡ worker → ⊥) → (before : List WalkRecord) → AreFloors worker before floors → AreFloors worker (before ++ w ∷ []) floors
  other_worker other before are k lt = stays before k (get_or floors k 0) (off_worker k other) (are k lt)

  pub no_command : length floors ≤ w.by.command → (before : List WalkRecord) → AreFloors worker before floors → AreFloors worker (before ++ w ∷ []) floors
  no_command past before are k lt = stays before k (get_or floors k 0) (off_command k (λ same. (let e : w.by.command ≡ k = same in omega (arith, e, lt, past)))) (are k lt)

  pub one_noted : (floor : ℕ) → w.by.worker ≡ worker → w.by.command < length floors → FloorWith (get_or floors w.by.command 0) (walk_cited w.answer) floor
      → (before : List WalkRecord) → AreFloors worker before floors → AreFloors worker (before ++ w ∷ []) (set floors w.by.command floor)
  one_noted floor same there grows before are k lt = dite (ℕ_discrete k w.by.command) here away
    where
      within : k < length floors
      within = subst (λ (n : ℕ). k < n) (length-set floors w.by.command floor) lt

      here : k ≡ w.by.command → IsFloor (walks_cite worker (before ++ w ∷ []) k) (get_or (set floors w.by.command floor) k 0)
      here e = subst (λ (j : ℕ). IsFloor (walks_cite worker (before ++ w ∷ []) j) (get_or (set floors w.by.command floor) j 0)) (sym e)
          (subst (IsFloor (walks_cite worker (before ++ w ∷ []) w.by.command)) (sym (get_or-set_same floors w.by.command floor 0 there))
          (subst (λ (ns : List ℕ). IsFloor ns floor) (sym (one_cites worker w.by.command before w true (on_command same)))
          (floor_grows (walks_cite worker before w.by.command) (walk_cited w.answer) (get_or floors w.by.command 0) floor (are w.by.command there) grows)))

      away : (k ≡ w.by.command → ⊥) → IsFloor (walks_cite worker (before ++ w ∷ []) k) (get_or (set floors w.by.command floor) k 0)
      away ne = subst (IsFloor (walks_cite worker (before ++ w ∷ []) k)) (sym (get_or-set_other floors w.by.command k floor 0 ne))
          (stays before k (get_or floors k 0) (off_command k (λ e. ne (sym e))) (are k within))

-- none was noted
pub none_floored : (worker : ℕ) (floors : List ℕ) → ((k : ℕ) → get_or floors k 0 ≡ 0) → AreFloors worker [] floors
none_floored worker floors all k lt = subst (IsFloor []) (sym (all k)) floor_none
