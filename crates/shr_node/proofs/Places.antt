-- SPDX-License-Identifier: GPL-2.0-only
-- Acting on the list of one place, and giving its room back.
use Rattle.shr_node.proofs.Common.{◌≡◌, ℕ, ◌<◌, ◌≤◌, Bool, false, List, [], ◌∷◌, ◌++◌, length, inl, inr, sym, refl, ap, subst, ◌∙◌, arith, true, MatchBool, ◌==◌, Some, Object, Policy, Place, Serial, Entry, place_number, IsTree, is_closed, Listed, Takes, RefusesWorn, LacksMemory, TellsScan, scan_entry, drain_entry, View, Shape, Room, Claims, no_rooms, AreBorn, list_content, groups_in, Core, Seated, IsPlaceOfShape, shape_of, view_of, with_drained, with_taken, with_given, IsTaken, IsCounted, drained_after, last_entry, Gains, Knows, with_kept, IsOpened, IsRoomReady, IsUntouched, WasMet, entry_made, Acts, LackedRoom, HadRoom, ScansPlace, eqb-true, RefusesClosed, EmptiesOne, LeavesOne, IsScanClosed, ScanIsWorn, ScanLacks}
use Rattle.shr_core.proofs.Births.{freed_born}
use Rattle.shr_node.proofs.Gaining.{gains_drained, gains_given, known_given, drained_kept, drained_given}
use Rattle.shr_node.proofs.Marking.{unmoved}
use Rattle.shr_node.proofs.Acting.{own_opened, ready_plain, held_here, scan_plain, untouched, owned_here, drain_plain, drain_bits, gains_one, acts, scans, was_open, left_gains, left_known, left_full, left_free, was_kept, was_left}

pub filled_some : (items : List Object) → (length items == 0) ≡ false → 0 < length items
filled_some [] some = absurd (cc)
filled_some (x ∷ xs) some = omega arith

-- the room of a place was taken by a seat with none in hand
pub record IsOwnTaken (shape : Shape) (v w : View) (place : Place) (room : Room) : Type 0 where
  pub tree : IsTree shape.parents.items
  pub nodes : shape.nodes ≤ 4
  pub groups : groups_in shape ≤ 256
  pub none : v.holding ≡ no_rooms
  pub there : IsPlaceOfShape shape place
  pub same : room.place ≡ place
  pub taken : w ≡ with_taken v (place_number place) (list_content room.list)
  pub told : IsTaken shape v (place_number place) (list_content room.list)

-- a room that was taken is its place's own, at a seat without rooms
pub own_taken : (core : Core) (v w : View) (place : Place) (room : Room) → v.holding ≡ no_rooms → IsPlaceOfShape (shape_of core) place → room.place ≡ place → w ≡ with_taken v (place_number place) (list_content room.list)
    → IsTaken (shape_of core) v (place_number place) (list_content room.list) → IsOwnTaken (shape_of core) v w place room
own_taken core v w place room none there same taken told = record { tree = core.tree; nodes = core.limits.2; groups = core.limits.4; none = none; there = there; same = same; taken = taken; told = told }

-- a load that found the list not empty left the seat as it was
pub still_seat : (s t : Seated) (k : ℕ) (found : Bool) → MatchBool found (t ≡ record s { view = with_drained (view_of s) k }) (t ≡ s) → found ≡ false → t ≡ s
still_seat s t k found told missed = subst (λ (b : Bool). MatchBool b (t ≡ record s { view = with_drained (view_of s) k }) (t ≡ s)) missed told

-- and a room that is taken then is its place's own
pub still_taken : (s t x : Seated) (place : Place) (room : Room) (found : Bool) → MatchBool found (t ≡ record s { view = with_drained (view_of s) (place_number place) }) (t ≡ s) → found ≡ false → (view_of s).holding ≡ no_rooms → IsPlaceOfShape (shape_of s.core) place → room.place ≡ place
    → x ≡ record t { view = with_taken (view_of t) (place_number place) (list_content room.list) } → IsTaken (shape_of t.core) (view_of t) (place_number place) (list_content room.list) → IsOwnTaken (shape_of s.core) (view_of s) (view_of x) place room
still_taken s t x place room found told missed none there same taken is = let k : ℕ = place_number place in let stays = still_seat s t k found told missed in
    own_taken s.core (view_of s) (view_of x) place room none there same (ap (λ (y : Seated). y.view) taken ∙ ap (λ (y : Seated). with_taken (view_of y) k (list_content room.list)) stays) (subst (λ (y : Seated). IsTaken (shape_of y.core) (view_of y) k (list_content room.list)) stays is)

module _ (shape : Shape) (v w : View) (place : Place) (room : Room) (t : IsOwnTaken shape v w place room) where
  -- an open list is the first open one from its own group up
  pub own : is_closed room.list.entries ≡ false → IsOpened shape v w place.id place.node place.group room
  own opens = own_opened shape v w place room t.tree t.there.group t.same t.taken t.told opens

  pub room_there : IsPlaceOfShape shape room.place
  room_there = subst (IsPlaceOfShape shape) (sym t.same) t.there

  -- the view as the room was taken, by the room's name of the place
  taken_room : w ≡ with_taken v (place_number room.place) (list_content room.list)
  taken_room = t.taken ∙ ap (λ (p : Place). with_taken v (place_number p) (list_content room.list)) (sym t.same)

  module _ (new : Listed) where
    -- a list that is as it was may be given back
    pub own_untouched : new ≡ room.list → IsUntouched shape w (record { place = room.place; list = new })
    own_untouched as-was = subst (λ (x : View). IsUntouched shape x (record { place = room.place; list = new })) (sym taken_room) (untouched shape v room new room_there t.none as-was)

    -- an open list that was left as it was met is known
    pub own_met : is_closed room.list.entries ≡ false → new ≡ room.list → (w' : View) → w' ≡ with_given w (place_number room.place) → WasMet shape v w' (place_number place) room.list
    own_met opens as-was w' left = subst (λ (p : Place). WasMet shape v w' (place_number p) room.list) t.same (record {
      was = was_open shape v w place.id place.node place.group room (own opens);
      known = left_known shape v w place.id place.node place.group room (own opens) new as-was w' left;
    })

    -- and then the call gains nothing
    pub own_left : is_closed room.list.entries ≡ false → new ≡ room.list → (w' : View) → w' ≡ with_given w (place_number room.place) → Gains v w' [] []
    own_left opens as-was w' left = left_gains shape v w place.id place.node place.group room (own opens) new as-was w' left

    -- the owner of an id that is quiet may drain
    pub drain_ready : v.claims.owner ≡ Some place.id → v.claims.quiet ≡ true → (by : Serial) (n : ℕ) → 0 < length room.list.items → Takes room.list new (drain_entry room.list by) n → IsRoomReady shape w (record { place = room.place; list = new })
    drain_ready owns quiet by n some took = let o = own took.was_open in ready_plain shape v w place.id place.node place.group room o t.tree t.there.group room_there t.nodes t.groups t.none new (drain_entry room.list by) n took
        (drain_plain _ _ _ room.list by (owned_here shape v w place.id place.node place.group room o t.tree t.there.group room_there t.nodes t.groups t.none owns) (ap (λ (x : Claims). x.quiet) o.gains.claims ∙ quiet)) some

    -- a list that held an object was left as it was
    pub drain_leaves : is_closed room.list.entries ≡ false → (length room.list.items == 0) ≡ false → new ≡ room.list → (w' : View) → w' ≡ with_given w (place_number room.place) → (before after : List Object) → after ≡ before
        → LeavesOne shape v w' place before after
    drain_leaves opens some as-was w' left before after objects = record {
      none = record { gains = own_left opens as-was w' left; objects = objects };
      marks = ap (λ (x : View). x.claims.drained) (was_left v w w' place room t.same t.taken left) ∙ (drained_given v (place_number place) (list_content room.list) ∙ unmoved v.claims (place_number place) room.list.items some);
      old = room.list;
      filled = record { there = t.there.group; some = filled_some room.list.items some; met = own_met opens as-was w' left };
    }

    -- a list was emptied
    pub drain_made : (by : Serial) (n : ℕ) → (length room.list.items == 0) ≡ false → Takes room.list new (drain_entry room.list by) n → (w' : View) → w' ≡ with_kept w (place_number room.place) (last_entry new.entries) new.items → (before after : List Object) → after ≡ before ++ room.list.items
        → EmptiesOne shape v w' place by before after
    drain_made by n some took w' kept before after objects = let o = own took.was_open in let e : Entry = drain_entry room.list by in record {
      drawn = inr (record {
        draw = record { group = place.group; number = length room.list.entries; items = room.list.items };
        here = refl;
        is = record {
          there = t.there.group;
          some = filled_some room.list.items some;
          born = t.told.births;
          later = subst (λ (p : Place). IsCounted shape v (place_number p) (length room.list.items) (length room.list.entries)) t.same (was_open shape v w place.id place.node place.group room o).later;
          room = let fits = took.room.entries in let most = t.told.most_entries in omega (arith, fits, most);
        };
        gains = subst (λ (p : Place). Gains v w' (entry_made (place_number p) room.list e ∷ []) []) t.same (subst (λ (s : List ℕ). Gains v w' (entry_made (place_number room.place) room.list e ∷ []) s) (drain_bits (place_number room.place) room.list.items)
            (gains_one shape v w place.id place.node place.group room o new (λ old. drain_entry old by) n took w' kept (λ h. refl)));
        objects = objects;
      });
      marks = ap (λ (x : View). x.claims.drained) (was_kept v w w' place room new e t.same t.taken kept took.gains.entries)
          ∙ (drained_kept v (place_number place) (list_content room.list) e new.items ∙ ap (drained_after v.claims (place_number place)) took.gains.items);
    }

    -- what a scan needs to give its room back, and what it answers then
    module _ (worker walk : ℕ) (policy : Policy) (asked : ℕ) where
      abbrev f : Listed → Entry
      f = λ old. scan_entry old worker walk policy asked

      -- a list that took a scan's entry is ready
      pub scan_ready : v.claims.held ≡ Some place.id → (n : ℕ) → Takes room.list new (scan_entry room.list worker walk policy asked) n → IsRoomReady shape w (record { place = room.place; list = new })
      scan_ready holds n took = let o = own took.was_open in ready_plain shape v w place.id place.node place.group room o t.tree t.there.group room_there t.nodes t.groups t.none new (scan_entry room.list worker walk policy asked) n took
          (scan_plain _ _ _ (scan_entry room.list worker walk policy asked) room.list worker walk policy asked refl (held_here shape v w place.id place.node place.group room o t.tree t.there.group room_there t.nodes t.groups t.none holds)) tt

      module _ (w' : View) where
        -- the scan made its entry
        pub scan_made : (n : ℕ) (freed : List Object) (visits : ℕ) (stopped : Bool) → TellsScan policy asked room.list.items freed visits stopped → Takes room.list new (scan_entry room.list worker walk policy asked) n
            → w' ≡ with_kept w (place_number room.place) (last_entry new.entries) new.items → ScansPlace shape v w' place worker walk policy asked freed visits stopped
        scan_made n freed visits stopped told took kept = scans shape v w' place n worker walk policy asked freed visits stopped
            (subst (λ (p : Place). Acts shape v w' place.id place.node place.group (record { place = p; entry = n }) (λ items. TellsScan policy asked items freed visits stopped × AreBorn (groups_in shape) freed) (λ old. scan_entry old worker walk policy asked)) t.same
            (acts shape v w place.id place.node place.group room (own took.was_open) new (λ old. scan_entry old worker walk policy asked) n took w' kept (λ h. refl) (λ items. TellsScan policy asked items freed visits stopped × AreBorn (groups_in shape) freed)
            (told, subst (λ (l : List Object). AreBorn (groups_in shape) l) (sym told.removed) (freed_born (groups_in shape) room.list.items (scan_entry room.list worker walk policy asked) t.told.births))))

        back : w' ≡ with_given w (place_number room.place) → w' ≡ with_given (with_taken v (place_number place) (list_content room.list)) (place_number place)
        back left = was_left v w w' place room t.same t.taken left

        -- the scan found the list closed
        pub scan_closed : RefusesClosed room.list new → w' ≡ with_given w (place_number room.place) → IsScanClosed v w' place
        scan_closed refuses left = record {
          closed = (room.list.entries, subst (λ (x : View). Knows x (place_number place) room.list.entries) (sym (back left)) (known_given v (place_number place) (list_content room.list)), refuses.closed);
          gains = subst (λ (x : View). Gains v x [] []) (sym (back left)) (gains_given v (place_number place) (list_content room.list));
        }

        -- the scan found the list full
        pub scan_worn : (entries items : ℕ) → RefusesWorn room.list new (scan_entry room.list worker walk policy asked) entries items → w' ≡ with_given w (place_number room.place)
            → ScanIsWorn shape v w' place place (λ old. scan_entry old worker walk policy asked) entries items
        scan_worn entries items worn left = record {
          old = room.list;
          here = refl;
          full = subst (λ (p : Place). LackedRoom shape v w' (place_number p) room.list (scan_entry room.list worker walk policy asked) entries items) t.same
              (left_full shape v w place.id place.node place.group room (own worn.was_open) new worn.same w' left (scan_entry room.list worker walk policy asked) entries items worn.worn);
        }

        -- the scan found no memory
        pub scan_lacks : LacksMemory room.list new (scan_entry room.list worker walk policy asked) → w' ≡ with_given w (place_number room.place) → ScanLacks shape v w' place (λ old. scan_entry old worker walk policy asked)
        scan_lacks lacks left = record {
          old = room.list;
          free = subst (λ (p : Place). HadRoom shape v w' (place_number p) room.list (scan_entry room.list worker walk policy asked)) t.same
              (left_free shape v w place.id place.node place.group room (own lacks.was_open) new lacks.same w' left (scan_entry room.list worker walk policy asked) lacks.room);
        }

pub none_in : (items : List Object) → (length items == 0) ≡ true → items ≡ []
none_in [] none = refl
none_in (x ∷ xs) none = absurd (omega (arith, eqb-true (length (x ∷ xs)) 0 none))

-- a load showed an empty list, whose room stayed where it was
pub empty_passed : (shape : Shape) (s t : Seated) (place : Place) {by : Serial} (found : Bool) → MatchBool found (t ≡ record s { view = with_drained (view_of s) (place_number place) }) (t ≡ s) → found ≡ true → (objects : List Object) → EmptiesOne shape (view_of s) (view_of t) place by objects objects
empty_passed shape s t place found told shown objects = let k : ℕ = place_number place in let is = ap (λ (y : Seated). y.view) (subst (λ (b : Bool). MatchBool b (t ≡ record s { view = with_drained (view_of s) k }) (t ≡ s)) shown told) in record {
  drawn = inl (record { gains = subst (λ (x : View). Gains (view_of s) x [] []) (sym is) (gains_drained (view_of s) k); objects = refl });
  marks = ap (λ (x : View). x.claims.drained) is;
}

-- an empty list was given back as it was
pub empty_leaves : (shape : Shape) (v w : View) (place : Place) {by : Serial} (room : Room) → IsOwnTaken shape v w place room → (length room.list.items == 0) ≡ true → (w' : View) → w' ≡ with_given w (place_number room.place) → (objects : List Object) → EmptiesOne shape v w' place by objects objects
empty_leaves shape v w place room t none w' left objects = let is = was_left v w w' place room t.same t.taken left in let k : ℕ = place_number place in record {
  drawn = inl (record { gains = subst (λ (x : View). Gains v x [] []) (sym is) (gains_given v k (list_content room.list)); objects = refl });
  marks = ap (λ (x : View). x.claims.drained) is ∙ (drained_given v k (list_content room.list) ∙ ap (drained_after v.claims k) (none_in room.list.items none));
}
