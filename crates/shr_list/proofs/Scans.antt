-- SPDX-License-Identifier: GPL-2.0-only
-- A scan over nodes: those behind it and those before it, and what each answer of the callback
-- makes of them.
use Rattle.shr_list.proofs.Common.{◌≡◌, ℕ, zero, suc, ◌+◌, ◌-◌, ◌<◌, ◌≤◌, Bool, true, false, List, [], ◌∷◌, ◌++◌, length, Option, Some, None, refl, sym, ap, subst, ◌∙◌, arith, append_assoc, length-append, Result, Ok, Err, map-append, append-nil, Object, Policy, unmarked_object, Removed, Rotate, Skip, Stop, Scanned, case_of, scan_of, scan_ends, resumed, scanned, Keyed, Queued, objects_of, first_key, IsAt, AtNode}
use Rattle.shr_base.specs.Kept.{Kept}
use Rattle.shr_model.specs.Scan.{scan_from}
use Rattle.shr_list.proofs.Walks.{at_head, no_head}
use Rattle.shr_list.proofs.ScanTurns.{turn_removed, turn_skipped, turn_rotated, turn_rotated_last, ends_stopped, ends_empty, ends_spent}

-- the scan has gone past some nodes and has the others before it; resumed, it is the whole
pub record IsScanning (policy : Policy) (asked met : ℕ) (nodes : List Keyed) (at : Option ℕ) (freed : List Object) (whole : Scanned) : Type 0 where
  pub skipped : List Keyed
  pub rest : List Keyed
  pub split : nodes ≡ skipped ++ rest
  pub here : at ≡ first_key rest
  pub resumes : resumed freed met (scan_from policy (asked - met) (objects_of skipped) (objects_of rest)) ≡ whole

pub objects_append : (xs ys : List Keyed) → objects_of (xs ++ ys) ≡ objects_of xs ++ objects_of ys
objects_append xs ys = map-append (λ (n : Keyed). n.1) xs ys

module _ (policy : Policy) (asked met : ℕ) (nodes : List Keyed) (freed : List Object) (whole : Scanned) where
  -- where no node is left
  pub scan_past : IsScanning policy asked met nodes None freed whole → whole ≡ scanned (objects_of nodes) freed met false
  scan_past now =
      let none = no_head now.rest now.here in
      let gone : objects_of now.rest ≡ [] = ap objects_of none in
      rw (now.split, objects_append now.skipped now.rest) (ends_empty policy asked met (objects_of now.skipped) (objects_of now.rest) (objects_of now.rest) freed whole gone gone now.resumes)

  -- where the budget is spent
  pub scan_spent : (at : Option ℕ) → asked ≡ met → IsScanning policy asked met nodes at freed whole → whole ≡ scanned (objects_of nodes) freed asked false
  scan_spent at spent now =
      rw (now.split, objects_append now.skipped now.rest) (ends_spent policy asked met (objects_of now.skipped) (objects_of now.rest) freed whole spent now.resumes)

  module _ (k : ℕ) (now : IsScanning policy asked met nodes (Some k) freed whole) where
    first : (o : Object) × (rest : List Keyed) × (now.rest ≡ (k, o) ∷ rest)
    first = at_head now.rest k now.here

    pub node_here : IsAt nodes k
    node_here = (now.skipped, first.0, first.1, now.split ∙ ap (λ (ns : List Keyed). now.skipped ++ ns) first.2)

    split_here : nodes ≡ now.skipped ++ (k, first.0) ∷ first.1
    split_here = now.split ∙ ap (λ (ns : List Keyed). now.skipped ++ ns) first.2

    ring_here : objects_of now.rest ≡ first.0 ∷ objects_of first.1
    ring_here = ap objects_of first.2

    module _ (x : Object) (within : met < asked) (seen : AtNode nodes k (λ xs o ys. x ≡ o)) where
      is_first : x ≡ first.0
      is_first = seen now.skipped first.0 first.1 split_here

      -- an object that is freed is one of those that the whole scan frees
      pub freed_here : Removed ≡ case_of policy x → length freed + 1 ≤ length whole.freed
      freed_here says =
          let more = turn_removed policy asked met (objects_of now.skipped) (objects_of now.rest) (objects_of first.1) freed first.0 whole within ring_here (rw is_first at says) now.resumes in
          let left = scan_from policy (asked - (met + 1)) (objects_of now.skipped) (objects_of first.1) in
          let same = ap (λ (s : Scanned). length s.freed) more in
          omega (arith, same, length-append (freed ++ first.0 ∷ []) left.freed, length-append freed (first.0 ∷ []))

      -- the callback stopped the scan
      pub scan_stopped : Stop ≡ case_of policy x → whole ≡ scanned (objects_of nodes) freed (met + 1) true
      scan_stopped says =
          rw (split_here, objects_append now.skipped ((k, first.0) ∷ first.1))
          (ends_stopped policy asked met (objects_of now.skipped) (objects_of now.rest) (objects_of first.1) freed first.0 whole within ring_here (rw is_first at says) now.resumes)

      module _ (next : Option ℕ) (follows : AtNode nodes k (λ xs o ys. next ≡ first_key ys)) where
        -- it left the object
        pub scan_skipped : Skip ≡ case_of policy x → IsScanning policy asked (met + 1) nodes next freed whole
        scan_skipped says =
            record {
              skipped = now.skipped ++ (k, first.0) ∷ [];
              rest = first.1;
              split = split_here ∙ sym (append_assoc now.skipped ((k, first.0) ∷ []) first.1);
              here = follows now.skipped first.0 first.1 split_here;
              resumes =
                  rw (objects_append now.skipped ((k, first.0) ∷ []))
                  (turn_skipped policy asked met (objects_of now.skipped) (objects_of now.rest) (objects_of first.1) freed first.0 whole within ring_here (rw is_first at says) now.resumes);
            }

        -- it took the object out
        pub scan_removed : (new : List Keyed) (freed_new : List Object) → Removed ≡ case_of policy x → AtNode nodes k (λ xs o ys. new ≡ xs ++ ys)
            → freed_new ≡ freed ++ x ∷ [] → IsScanning policy asked (met + 1) new next freed_new whole
        scan_removed new freed_new says left more =
            record {
              skipped = now.skipped;
              rest = first.1;
              split = left now.skipped first.0 first.1 split_here;
              here = follows now.skipped first.0 first.1 split_here;
              resumes =
                  rw (more, is_first)
                  (turn_removed policy asked met (objects_of now.skipped) (objects_of now.rest) (objects_of first.1) freed first.0 whole within ring_here (rw is_first at says) now.resumes);
            }

        -- it put the object at the tail
        pub scan_rotated : (new : List Keyed) → Rotate ≡ case_of policy x → AtNode nodes k (λ xs o ys. new ≡ (xs ++ ys) ++ (k, unmarked_object o) ∷ [])
            → IsScanning policy asked (met + 1) new next freed whole
        scan_rotated new says left = by first.1 refl
          where
            by : (rest : List Keyed) → first.1 ≡ rest → IsScanning policy asked (met + 1) new next freed whole
            by [] last =
                record {
                  skipped = now.skipped ++ (k, unmarked_object first.0) ∷ [];
                  rest = [];
                  split = left now.skipped first.0 first.1 split_here ∙ rw (last, append-nil, append-nil) refl;
                  here = follows now.skipped first.0 first.1 split_here ∙ ap first_key last;
                  resumes =
                      rw (objects_append now.skipped ((k, unmarked_object first.0) ∷ []))
                      (turn_rotated_last policy asked met (objects_of now.skipped) (objects_of now.rest) freed first.0 whole within (rw last at ring_here) (rw is_first at says) now.resumes);
                }
            by (y ∷ ys) others =
                record {
                  skipped = now.skipped;
                  rest = first.1 ++ (k, unmarked_object first.0) ∷ [];
                  split = left now.skipped first.0 first.1 split_here ∙ append_assoc now.skipped first.1 ((k, unmarked_object first.0) ∷ []);
                  here = follows now.skipped first.0 first.1 split_here ∙ rw others refl;
                  resumes =
                      rw (objects_append first.1 ((k, unmarked_object first.0) ∷ []))
                      (turn_rotated policy asked met (objects_of now.skipped) (objects_of now.rest) (objects_of first.1) freed first.0 whole within ring_here (rw others (omega arith)) (rw is_first at says) now.resumes);
                }

-- where a scan begins
pub scan_begins : (policy : Policy) (asked : ℕ) (nodes : List Keyed) (at : Option ℕ) (freed : List Object) → at ≡ first_key nodes → freed ≡ []
    → IsScanning policy asked 0 nodes at freed (resumed [] 0 (scan_from policy asked [] (objects_of nodes)))
scan_begins policy asked nodes at freed here none =
    let whole : asked - 0 ≡ asked = omega arith in
    record { skipped = []; rest = nodes; split = refl; here = here; resumes = rw (whole, none) refl }

-- a scan of no object
pub scan_none : (policy : Policy) (asked : ℕ) → scan_of policy asked [] ≡ scan_ends []
unfolding scan_from
scan_none policy zero = refl
scan_none policy (suc asked) = refl

-- ---- the room of a scan

-- it is made where it can't be that it is not
pub is_made : (now : Bool) → (now ≡ false → ⊥) → now ≡ true
is_made true left = refl
is_made false left = absurd (left refl)

pub ok_true : {E : Type 0} (now : Bool) → ◌≡◌ {A = Result Bool E} (Ok now) (Ok true) → now ≡ true
ok_true true is = refl
ok_true false is = absurd (cc)

pub err_ok : {E : Type 0} (error : E) → ◌≡◌ {A = Result Bool E} (Err error) (Ok true) → ⊥
err_ok error is = cc

-- where it isn't made now it wasn't before
pub was_not : (made now : Bool) → (made ≡ true → now ≡ true) → now ≡ false → made ≡ false
was_not true now keeps is = absurd (let both : true ≡ false = sym (keeps refl) ∙ is in cc)
was_not false now keeps is = refl

-- what was freed and the room that is left are enough for all that the scan frees
pub room_made : (policy : Policy) (asked : ℕ) (start queue : Queued) (made now : Bool) (old new : Kept Object) → (made ≡ true → new ≡ old) → (made ≡ false → queue ≡ start)
    → (made ≡ false → now ≡ true → length (scan_of policy asked queue.items).freed ≤ new.spare)
    → (made ≡ true → length (scan_of policy asked start.items).freed ≤ length old.items + old.spare) → now ≡ true
    → length (scan_of policy asked start.items).freed ≤ length new.items + new.spare
room_made policy asked start queue true now old new same untouched room was is =
    subst (λ (k : Kept Object). length (scan_of policy asked start.items).freed ≤ length k.items + k.spare) (sym (same refl)) (was refl)
room_made policy asked start queue false now old new same untouched room was is =
    let fits : length (scan_of policy asked start.items).freed ≤ new.spare =
    subst (λ (q : Queued). length (scan_of policy asked q.items).freed ≤ new.spare) (untouched refl) (room refl is) in
    omega (arith, fits)
