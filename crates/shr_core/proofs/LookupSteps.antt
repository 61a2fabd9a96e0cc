-- SPDX-License-Identifier: GPL-2.0-only
-- Steps on lookup words keep the rule.
use Rattle.shr_core.proofs.Common.{◌≡◌, ◌⊎◌, ℕ, zero, suc, ◌+◌, ◌-◌, ◌*◌, ◌%◌, ◌^◌, ◌<◌, ◌≤◌, ◌≢◌, Bool, true, false, cond, eqb, List, [], ◌∷◌, ◌++◌, map, length, set, get_or, sym, refl, ap, subst, ◌∙◌, ⊎_elim, arith, eq-eqb, ne_eqb, lt-ltb, le-ltb, get_or-set_same, get_or-set_other, none-some, same_Some, nat_tests, dite, ℕ_discrete, dec_lt, some, get_elem?, State, keeps, Allows, at_map, LookupWord, PoolEntry, HasJournal, phase_of, decl_of, from_of, registrations, decl_at, is_live_decl, lowest_idle, is_free, IsNextPool, phase_of_push, Each, by_seat, total, times, only_no, term_le, terms_le, Each-push, Each-set, View, Slot, Setting, RoomContent, Claims, Event, put_back, counts_in, locks_in, bits_in, looks_in, homes_in, places_in, place_id, above, sizes_of, refs_of, lookups_of, phase_in, decl_in, word_in, IsRoom, Sound, HasLastEnd, HasOwnEnd, Fits, IsRoomAtHome, AreMarks, AreLookupsOf, AreOwned, AreTurns, IsLoaded, met_now, phases, has_room, mark_of, holding_of, marks_of, claims_of, turns_of, is_some_of, only_some, Sat, with_word, with_leave, with_given_up, with_lookup, with_put, put_events, turn_at, undrained, with_phase, MayPhase, in_hand, worded, raise, phase_told, without_id}
use Rattle.shr_core.proofs.Options.{one_some, is_some_is, only_some_yes, only_some_no}
use Rattle.std.specs.Prelude.{◌&&◌, Some, None, Option as Maybe}
use Rattle.shr_model.specs.Pool.{lowest_free}
use Rattle.shr_core.specs.Tells.{IsOfPool, looked}
use Rattle.shr_core.proofs.Ordering as ordering
use Rattle.shr_core.proofs.Frames.{here, on_load, on_look, lists_stay, rooms_stay, traces_stay, marks_stay, turns_stay, dated_stay, seats_stay}
use Rattle.shr_core.proofs.PoolLengths.{declared_in}
use Rattle.shr_core.proofs.Alone as alone
use Rattle.shr_core.proofs.Packing as packing
use Rattle.shr_core.proofs.Laying.{look_low}
use Rattle.shr_core.proofs.Marking as marking
use Rattle.shr_core.proofs.Rooming as rooming
use Rattle.shr_core.proofs.Listing as listing
use Rattle.shr_core.proofs.Claiming as claiming
use Rattle.shr_core.proofs.Claiming.{turn_here, turn_else, by_phase}
use Rattle.shr_core.proofs.Owning as owning
use Rattle.shr_core.proofs.Owning.{Owner}
use Rattle.shr_core.proofs.Turning as turning
use Rattle.shr_core.proofs.Dating as dating
use Rattle.shr_core.proofs.Unregistering as unregistering

times-without_id : (k i : ℕ) (xs : List ℕ) → place_id k ≢ i → times k (without_id i xs) ≡ times k xs
times-without_id k i [] n = refl
times-without_id k i (x ∷ xs) n = let F : Bool → Type 0 = λ b. times k (cond b (without_id i xs) (x ∷ without_id i xs)) ≡ times k (x ∷ xs) in
    dite (ℕ_discrete (place_id x) i) (λ e. subst F (sym (eq-eqb (place_id x) i e)) (omega (arith, only_no k x (λ d. n (ap place_id (sym d) ∙ e)), times-without_id k i xs n)))
    (λ m. subst F (sym (ne_eqb (place_id x) i m)) (omega (arith, times-without_id k i xs n)))

both : (a : Bool) (b y : ℕ) → (a && eqb b y) ≡ true → (a ≡ true) × (b ≡ y)
both a b y is = (grind (arith, nat_tests), grind (arith, nat_tests))

module _ (key : Setting) (s : State Slot View) (o : Sound key s) (id i : ℕ) (v : View) (me : get_elem? s.views id ≡ some v) (near : i < key.shape.ids) where
  -- what is owed after the load
  load_marks : AreMarks key.shape.ids (counts_in (sizes_of key.shape) s.words) (bits_in (sizes_of key.shape) s.words) (phases o.pool) (set (map marks_of s.views) id (with_word v i (word_in (looks_in s.words i))).marks)
  load_marks = let w : LookupWord = word_in (looks_in s.words i) in let phase = o.rules.looked.phase i near in let ids : ℕ = key.shape.ids in
      let F : Bool → Type 0 = λ b. AreMarks ids (counts_in (sizes_of key.shape) s.words) (bits_in (sizes_of key.shape) s.words) (phases o.pool) (set (map marks_of s.views) id (record v.marks { owed = cond b v.marks.owed (without_id i v.marks.owed) })) in
      dite (ℕ_discrete (w.phase % 3) 1)
      (λ e. subst F (sym (eq-eqb (w.phase % 3) 1 e)) (marks_stay key s o id v me))
      (λ ne. subst F (sym (ne_eqb (w.phase % 3) 1 ne)) (marking.owes_less ids (counts_in (sizes_of key.shape) s.words) (bits_in (sizes_of key.shape) s.words) (phases o.pool) (map marks_of s.views) id v.marks (without_id i v.marks.owed) (here s.views id v me marks_of)
      (λ j live some-items. times-without_id j i v.marks.owed (λ d. ne (ap (λ x. x % 3) (phase ∙ ap (λ x. phase_of x o.pool) (sym d)) ∙ live))) o.rules.marked))

  -- the words loaded
  load_loaded : Each (IsLoaded key.shape.ids (looks_in s.words)) (v.claims.loaded ++ record { id = i; word = word_in (looks_in s.words i) } ∷ [])
  load_loaded = Each-push (IsLoaded key.shape.ids (looks_in s.words)) v.claims.loaded (record { id = i; word = word_in (looks_in s.words i) }) (near, omega arith) (o.rules.looked.loaded id v.claims (here s.views id v me claims_of))

  true_false : true ≡ false → ⊥
  true_false e = cc

  -- what the seat owns after the load
  load_owner : (j : ℕ) → v.claims.owner ≡ Some j → Owner key.shape o.now o.after (map claims_of s.views) (with_word v i (word_in (looks_in s.words i))).claims j
  load_owner j e = let w : LookupWord = word_in (looks_in s.words i) in let c : Claims = v.claims in let cs : List Claims = map claims_of s.views in
      let old = owning.own key.shape o.now o.after o.pool cs c j (o.rules.owned.owner id c (here s.views id v me claims_of) j e) in
      let P : Bool → Type 0 = λ b. (is_some_of i c.owner && eqb w.refs 0) ≡ b → Owner key.shape o.now o.after cs (record c { loaded = c.loaded ++ record { id = i; word = w } ∷ []; quiet = cond b true c.quiet }) j in
      let all : (b : Bool) → P b = λ b. elim b as P [
        | true ↦ λ is. let t = both (is_some_of i c.owner) w.refs 0 is in let no_refs : w.refs ≡ 0 = t.1 in let same : i ≡ j = one_some i j c.owner (is_some_is i c.owner t.0) e in record {
          quiet = λ _. subst (λ (x : ℕ). total (λ (z : Claims). only_some x z.held) cs ≡ 0) same (claiming.no_held i cs (o.rules.looked.refs i near) no_refs);
          nodes = old.nodes;
          unmoved = λ n. absurd (true_false n);
          drained = old.drained;
        }
        | false ↦ λ is. record { quiet = old.quiet; nodes = old.nodes; unmoved = old.unmoved; drained = old.drained }
      ] in
      all (is_some_of i c.owner && eqb w.refs 0) refl

-- what the word of an id says to a seat
pub of_pool : (key : Setting) (s : State Slot View) (o : Sound key s) (id i : ℕ) (v : View) → get_elem? s.views id ≡ some v → i < key.shape.ids → IsOfPool key v i (word_in (looks_in s.words i))
of_pool key s o id i v me near = let mine : 0 < has_room (places_in key.shape.ids) v.holding → (in_hand v (places_in key.shape.ids)).pool ≡ o.pool = λ has.
    (rooming.mine (IsRoom key.shape) (locks_in (sizes_of key.shape) s.words) (homes_in (sizes_of key.shape) s.homes) (IsRoomAtHome key.shape o.now o.after o.pool) (Fits key.shape o.now o.after o.pool) (map holding_of s.views) o.rules.roomed id (places_in key.shape.ids) v.holding (here s.views id v me holding_of) has).1.turns refl in record {
      phase = λ has. o.rules.looked.phase i near ∙ ap (phase_of i) (sym (mine has));
      decl = λ has. o.rules.looked.decl i near ∙ ap (decl_of i) (sym (mine has));
      declared = λ some. omega (arith, o.rules.looked.decl i near, declared_in key.shape.ids key.shape.decls i o.pool o.rules.turned.journal (λ z. some (o.rules.looked.phase i near ∙ z)));
      dying = λ has owner. omega (arith, o.rules.looked.phase i near, (o.rules.owned.owner id v.claims (here s.views id v me claims_of) i owner).dying);
      met = λ has. subst (λ (l : List PoolEntry). decl_at (lookups_of (looks_in s.words i)) (registrations i l) ≡ met_now i l) (sym (mine has)) (o.rules.looked.edges i (lookups_of (looks_in s.words i)) near (omega arith));
      last_end = λ has owner. subst (λ (l : List PoolEntry). HasLastEnd i l v.turns.made) (sym (mine has)) (o.ended id v me i owner);
      began = λ has. subst (λ (l : List PoolEntry). from_of i l ≤ lookups_of (looks_in s.words i)) (sym (mine has)) (o.rules.looked.began i near);
      tried = λ j x e same. subst (λ (y : ℕ). x.number < lookups_of (looks_in s.words y)) same (claiming.attempt_below key.shape.ids key.first_lookup (looks_in s.words) o.pool (map claims_of s.views) o.rules.looked id j v.claims x (here s.views id v me claims_of) e (o.rules.looked.tried id v.claims (here s.views id v me claims_of) j x e).0);
      later = λ j x e same. subst (λ (y : ℕ). x.word.lookups ≤ lookups_of (looks_in s.words y)) same (o.rules.looked.loaded id v.claims (here s.views id v me claims_of) j x e).1;
      first = λ first whole untried. alone.first_alone key s o id v me first whole untried i near;
      refs = omega (arith, o.rules.looked.refs i near, term_le (λ (c : Claims). only_some i c.held + only_some i c.probe) (map claims_of s.views) id v.claims (here s.views id v me claims_of));
      only = λ first whole. alone.refs_alone key s o id v me first whole i near;
    }

-- a load of a lookup word is a step that the rule allows
pub words : (key : Setting) (n id : ℕ) (m : Sat) (i : ℕ) → i < key.shape.ids → m.0.standing.gone ≡ false → Allows (Sound key) n id m (8 * i + 3) (λ y. y) (worded key m i)
words key n id m i near present s o deep me _ =
    let v : View = m.0 in let w : View = with_word v i (word_in (looks_in s.words i)) in let q = o.rules in let cs : List Claims = map claims_of s.views in let c : Claims = v.claims in let at = here s.views id v me claims_of in (
      w,
      keeps,
      tt,
      on_load key s o id w present (o.ended id v me) (8 * i + 3) (ordering.loads key.shape.ids key.first_lookup o.now o.pool (bits_in (sizes_of key.shape) s.words) (looks_in s.words) s.views id v me present o.ordered w i (word_in (looks_in s.words i)) near refl refl refl refl (q.looked.phase i near) refl) record {
        counted = q.counted;
        roomed = rooms_stay key s o id v me;
        listed = lists_stay key s o id v me;
        traced = traces_stay key s o id v me;
        marked = load_marks key s o id i v me near;
        looked = claiming.still key.shape.ids key.first_lookup (looks_in s.words) o.pool cs id c.owner w.claims.quiet c.drained w.claims.loaded c at (load_loaded key s o id i v me near) q.looked;
        owned = owning.keeps_owner key.shape o.now o.after o.pool cs id c w.claims at refl (λ j d. omega arith) (load_owner key s o id i v me near) q.owned;
        turned = turns_stay key s o id v me;
        dated = dated_stay key s o id v me;
        seated = seats_stay key s o id v me;
      },
      (refl, of_pool key s o id i v me near),
    )

-- the load that gives up the owned id
pub gives_up : (key : Setting) (n id : ℕ) (m : Sat) (i : ℕ) → i < key.shape.ids → m.0.standing.gone ≡ false → Allows (Sound key) n id m (8 * i + 3) (λ y. y) (λ r q. q ≡ (with_given_up m.0 i (word_in r), m.1))
gives_up key n id m i near present s o deep me _ =
    let v : View = m.0 in let w : View = with_given_up v i (word_in (looks_in s.words i)) in let q = o.rules in let cs : List Claims = map claims_of s.views in let c : Claims = v.claims in let at = here s.views id v me claims_of in (
      w,
      keeps,
      tt,
      on_load key s o id w present (λ j e. absurd (none-some j e)) (8 * i + 3) (ordering.loads key.shape.ids key.first_lookup o.now o.pool (bits_in (sizes_of key.shape) s.words) (looks_in s.words) s.views id v me present o.ordered w i (word_in (looks_in s.words i)) near refl refl refl refl (q.looked.phase i near) refl) record {
        counted = q.counted;
        roomed = rooms_stay key s o id v me;
        listed = lists_stay key s o id v me;
        traced = traces_stay key s o id v me;
        marked = load_marks key s o id i v me near;
        looked = claiming.still key.shape.ids key.first_lookup (looks_in s.words) o.pool cs id None false [] w.claims.loaded c at (load_loaded key s o id i v me near) q.looked;
        owned = owning.gives_up key.shape o.now o.after o.pool cs id c w.claims at refl refl q.owned;
        turned = turns_stay key s o id v me;
        dated = dated_stay key s o id v me;
        seated = seats_stay key s o id v me;
      },
      refl,
    )

-- the load before a lookup
pub allows : (key : Setting) (n id : ℕ) (m : Sat) (i : ℕ) → i < key.shape.ids → m.0.standing.gone ≡ false → m.0.claims.may ≡ None → Allows (Sound key) n id m (8 * i + 3) (λ y. y) (λ r q. q ≡ (with_leave m.0 i (word_in r), m.1))
allows key n id m i near present idle s o deep me _ =
    let v : View = m.0 in let word : LookupWord = word_in (looks_in s.words i) in let w : View = with_leave v i word in let q = o.rules in let cs : List Claims = map claims_of s.views in let c : Claims = v.claims in let at = here s.views id v me claims_of in
    let F : Bool → Type 0 = λ b. AreLookupsOf key (looks_in s.words) o.pool (set cs id (record c { loaded = w.claims.loaded; quiet = w.claims.quiet; may = cond b (Some i) None })) in (
      w,
      keeps,
      tt,
      on_load key s o id w present (o.ended id v me) (8 * i + 3) (ordering.loads key.shape.ids key.first_lookup o.now o.pool (bits_in (sizes_of key.shape) s.words) (looks_in s.words) s.views id v me present o.ordered w i (word_in (looks_in s.words i)) near refl refl refl refl (q.looked.phase i near) refl) record {
        counted = q.counted;
        roomed = rooms_stay key s o id v me;
        listed = lists_stay key s o id v me;
        traced = traces_stay key s o id v me;
        marked = load_marks key s o id i v me near;
        looked = dite (dec_lt word.lookups 4294967040)
            (λ l. subst F (sym (lt-ltb word.lookups 4294967040 l)) (claiming.leaves key.shape.ids key.first_lookup (looks_in s.words) o.pool cs id i w.claims.quiet w.claims.loaded c at idle l (load_loaded key s o id i v me near) q.looked))
            (λ h. subst F (sym (le-ltb word.lookups 4294967040 (omega arith))) (subst (λ (x : Maybe ℕ). AreLookupsOf key (looks_in s.words) o.pool (set cs id (record c { loaded = w.claims.loaded; quiet = w.claims.quiet; may = x }))) idle
            (claiming.still key.shape.ids key.first_lookup (looks_in s.words) o.pool cs id c.owner w.claims.quiet c.drained w.claims.loaded c at (load_loaded key s o id i v me near) q.looked)));
        owned = owning.keeps_owner key.shape o.now o.after o.pool cs id c w.claims at refl (λ j d. omega arith) (λ j e. let t = load_owner key s o id i v me near j e in record { quiet = t.quiet; nodes = t.nodes; unmoved = t.unmoved; drained = t.drained }) q.owned;
        turned = turns_stay key s o id v me;
        dated = dated_stay key s o id v me;
        seated = seats_stay key s o id v me;
      },
      refl,
    )

module _ (ws : List ℕ) (i n : ℕ) (near : 8 * i + 3 < length ws) where
  -- the word that was changed
  pub look_here : looks_in (set ws (8 * i + 3) n) i ≡ n
  look_here = get_or-set_same ws (8 * i + 3) n 0 near

  -- and each other
  pub look_else : (x : ℕ) → x ≢ i → looks_in (set ws (8 * i + 3) n) x ≡ looks_in ws x
  look_else x ne = get_or-set_other ws (8 * i + 3) (8 * x + 3) n 0 (λ e. ne (omega arith))

-- the lookup
pub looks : (key : Setting) (n id : ℕ) (m : Sat) (i : ℕ) → i < key.shape.ids → m.0.standing.gone ≡ false → m.0.claims.may ≡ Some i → m.0.claims.held ≡ None → m.0.claims.probe ≡ None → Allows (Sound key) n id m (8 * i + 3) (λ y. (y + 257) % 2 ^ 64) (looked key m i)
looks key n id m i near present may held probe s o deep me fits =
    let found : ℕ = get_or s.words (8 * i + 3) 0 in let word : LookupWord = word_in found in let v : View = m.0 in let w : View = with_lookup v i word in let q = o.rules in let cs : List Claims = map claims_of s.views in let c : Claims = v.claims in let at = here s.views id v me claims_of in let wide = o.wide in
    let new : ℕ = (found + 257) % 18446744073709551616 in let inside : 8 * i + 3 < length s.words = omega (arith, o.wide, look_low key.shape i o.sized.shape.some_nodes o.sized.shape.tree.has_root near) in
    let look' : ℕ → ℕ = looks_in (set s.words (8 * i + 3) new) in let is = look_here s.words i new inside in
    let left = claiming.space_left key.shape.ids key.first_lookup (looks_in s.words) o.pool cs q.looked id i c at near may in
    let f = packing.looks found fits left.0 (omega (arith, left.1)) in
    let phase = q.looked.phase i near in (
      w,
      keeps,
      tt,
      on_look key s o id w present o.pool (Each-set (HasOwnEnd o.pool) s.views id w (o.ended id v me) o.ended) i new (ordering.looks_up key.shape.ids key.first_lookup o.now o.pool (bits_in (sizes_of key.shape) s.words) (looks_in s.words) s.views id v me present o.ordered look' w i word near refl refl (ordering.no_refs c.held c.probe held probe) (ordering.one_ref i c.held c.probe (eqb (word.phase % 3) 1) held probe) held refl refl phase (q.looked.decl i near) (ap lookups_of is ∙ f.lookups_is) (ap refs_of is ∙ f.refs_is) (look_else s.words i new inside)) record {
        counted = q.counted;
        roomed = rooms_stay key s o id v me;
        listed = lists_stay key s o id v me;
        traced = traces_stay key s o id v me;
        marked = marks_stay key s o id v me;
        looked = claiming.looks_up key.shape.ids key.first_lookup (looks_in s.words) look' o.pool cs id i c word at near may held probe refl refl refl (ap refs_of is ∙ f.refs_is) (ap lookups_of is ∙ f.lookups_is) (ap phase_in is ∙ f.phase_is) (ap decl_in is ∙ f.decl_is) (look_else s.words i new inside) q.looked;
        owned = owning.keeps_owner key.shape o.now o.after o.pool cs id c w.claims at refl
            (λ j dying. dite (ℕ_discrete (word.phase % 3) 1)
            (λ e. omega (arith, ap (λ b. only_some j (cond b (Some i) c.held)) (eq-eqb (word.phase % 3) 1 e), only_some_no j (Some i) (λ d. let same : i ≡ j = same_Some i j d in omega (arith, e, phase, dying, ap (λ x. phase_of x o.pool) same))))
            (λ ne. omega (arith, ap (λ b. only_some j (cond b (Some i) c.held)) (ne_eqb (word.phase % 3) 1 ne))))
            (λ j e. let t = owning.own key.shape o.now o.after o.pool cs c j (q.owned.owner id c at j e) in record { quiet = t.quiet; nodes = t.nodes; unmoved = t.unmoved; drained = t.drained }) q.owned;
        turned = turns_stay key s o id v me;
        dated = dating.rises key.shape.ids (looks_in s.words) look' o.pool (set (map turns_of s.views) id v.turns) i (omega (arith, ap lookups_of is, f.lookups_is)) (look_else s.words i new inside) (dated_stay key s o id v me);
        seated = seats_stay key s o id v me;
      },
      (refl, of_pool key s o id i v me near),
    )

-- the reference that is given back is that of the id
put_is : (i : ℕ) (held probe : Maybe ℕ) → ((held ≡ Some i) × (probe ≡ None)) ⊎ ((held ≡ None) × (probe ≡ Some i)) → put_events held probe ≡ put_back i ∷ []
put_is i held probe has = ⊎_elim (λ h. ap (λ (x : Maybe ℕ). put_events x probe) h.0) (λ h. ap (λ (x : Maybe ℕ). put_events x probe) h.0 ∙ ap (λ (x : Maybe ℕ). put_events None x) h.1) has

-- the reference is given back
pub puts : (key : Setting) (n id : ℕ) (m : Sat) (i : ℕ) → i < key.shape.ids → m.0.standing.gone ≡ false → ((m.0.claims.held ≡ Some i) × (m.0.claims.probe ≡ None)) ⊎ ((m.0.claims.held ≡ None) × (m.0.claims.probe ≡ Some i)) → Allows (Sound key) n id m (8 * i + 3) (λ y. (y + (2 ^ 64 - 1)) % 2 ^ 64) (λ r q. q ≡ (with_put m.0, m.1))
puts key n id m i near present has s o deep me fits =
    let found : ℕ = get_or s.words (8 * i + 3) 0 in let v : View = m.0 in let w : View = with_put v in let q = o.rules in let cs : List Claims = map claims_of s.views in let c : Claims = v.claims in let at = here s.views id v me claims_of in let wide = o.wide in
    let new : ℕ = (found + (18446744073709551616 - 1)) % 18446744073709551616 in let inside : 8 * i + 3 < length s.words = omega (arith, o.wide, look_low key.shape i o.sized.shape.some_nodes o.sized.shape.tree.has_root near) in
    let look' : ℕ → ℕ = looks_in (set s.words (8 * i + 3) new) in let is = look_here s.words i new inside in
    let some-refs : 0 < refs_of found = ⊎_elim (λ h. omega (arith, q.looked.refs i near, term_le (claiming.R i) cs id c at, only_some_yes i c.held h.0)) (λ h. omega (arith, q.looked.refs i near, term_le (claiming.R i) cs id c at, only_some_yes i c.probe h.1)) has in
    let f = packing.puts found fits some-refs in (
      w,
      keeps,
      tt,
      on_look key s o id w present o.pool (Each-set (HasOwnEnd o.pool) s.views id w (o.ended id v me) o.ended) i new (ordering.puts key.shape.ids key.first_lookup o.now o.pool (bits_in (sizes_of key.shape) s.words) (looks_in s.words) s.views id v me present o.ordered look' w i near refl (ap (λ (l : List Event). v.did ++ by_seat v.seat l) (put_is i c.held c.probe has)) (ordering.ref_is i c.held c.probe has) refl some-refs (ap lookups_of is ∙ f.lookups_is) (omega (arith, ap refs_of is, f.refs_is, some-refs)) (look_else s.words i new inside)) record {
        counted = q.counted;
        roomed = rooms_stay key s o id v me;
        listed = lists_stay key s o id v me;
        traced = traces_stay key s o id v me;
        marked = marks_stay key s o id v me;
        looked = claiming.puts_back key.shape.ids key.first_lookup (looks_in s.words) look' o.pool cs id i c at near has (omega (arith, ap refs_of is, f.refs_is, some-refs)) (ap lookups_of is ∙ f.lookups_is) (ap phase_in is ∙ f.phase_is) (ap decl_in is ∙ f.decl_is) (look_else s.words i new inside) q.looked;
        owned = owning.keeps_owner key.shape o.now o.after o.pool cs id c w.claims at refl (λ j d. omega arith) (λ j e. let t = owning.own key.shape o.now o.after o.pool cs c j (q.owned.owner id c at j e) in record { quiet = t.quiet; nodes = t.nodes; unmoved = t.unmoved; drained = t.drained }) q.owned;
        turned = turns_stay key s o id v me;
        dated = dating.rises key.shape.ids (looks_in s.words) look' o.pool (set (map turns_of s.views) id v.turns) i (omega (arith, ap lookups_of is, f.lookups_is)) (look_else s.words i new inside) (dated_stay key s o id v me);
        seated = seats_stay key s o id v me;
      },
      refl,
    )

-- the lowest id that can be registered has two phases left
pub lowest_free_is : (more id i : ℕ) (es : List PoolEntry) → lowest_free more id es ≡ Some i → is_free i es ≡ true
unfolding lowest_free
lowest_free_is zero id i es e = absurd (none_some e) where
  is_some : Maybe ℕ → Type 0
  is_some None = ⊥
  is_some (Some x) = Unit {0}

  none_some : None ≡ Some i → ⊥
  none_some e = subst is_some (sym e) tt
lowest_free_is (suc more) id i es e =
    let P : Bool → Type 0 = λ b. is_free id es ≡ b → cond b (Some id) (lowest_free more (suc id) es) ≡ Some i → is_free i es ≡ true in
    let all : (b : Bool) → P b = λ b. elim b as P [ true ↦ (λ is f. subst (λ (x : ℕ). is_free x es ≡ true) (ap value f) is) | false ↦ (λ is f. lowest_free_is more (suc id) i es f) ] in
    all (is_free id es) refl e where
      value : Maybe ℕ → ℕ
      value None = 0
      value (Some x) = x

free_phase : (ids i : ℕ) (es : List PoolEntry) → lowest_idle ids es ≡ Some i → phase_of i es < 65533
free_phase ids i es e = let t = lowest_free_is ids 0 i es e in grind (arith, nat_tests)

-- the addition of a phase step is one that the rule allows
pub phased : (key : Setting) (n id : ℕ) (m : Sat) (i d k : ℕ) → m.0.standing.gone ≡ false → MayPhase key.shape m.0 i d → k ≡ raise (decl_of i (in_hand m.0 (places_in key.shape.ids)).pool) d
    → Allows (Sound key) n id m (8 * i + 3) (λ y. (y + k) % 2 ^ 64) (phase_told key m i d)
phased key n id m i d k present may is-k s o deep me fits =
    let v : View = m.0 in let found : ℕ = get_or s.words (8 * i + 3) 0 in let word : LookupWord = word_in found in let w : View = with_phase key.shape v i d word in let q = o.rules in let cs : List Claims = map claims_of s.views in let c : Claims = v.claims in let at = here s.views id v me claims_of in let wide = o.wide in
    let near = may.near in let r : ℕ = places_in key.shape.ids in let at-holding = here s.views id v me holding_of in let sh = o.sized.shape in
    let mine = rooming.mine (IsRoom key.shape) (locks_in (sizes_of key.shape) s.words) (homes_in (sizes_of key.shape) s.homes) (IsRoomAtHome key.shape o.now o.after o.pool) (Fits key.shape o.now o.after o.pool) (map holding_of s.views) q.roomed id r v.holding at-holding may.room in
    let in-pool : (in_hand v r).pool ≡ o.pool = mine.1.turns refl in
    let e : PoolEntry = turn_at i d word in let pool' : List PoolEntry = o.pool ++ e ∷ [] in
    let phase : word.phase ≡ phase_of i o.pool = q.looked.phase i near in let decl : word.decl ≡ decl_of i o.pool = q.looked.decl i near in
    let P : List PoolEntry → Type 0 = λ l. (phase_of i l % 3 ≡ 0 → is_live_decl key.shape.ids d l ≡ false) × (phase_of i l % 3 ≡ 0 → lowest_idle key.shape.ids l ≡ Some i) × (phase_of i l % 3 ≡ 1 → c.owner ≡ None) × (phase_of i l % 3 ≢ 0 → d ≡ decl_of i l)
    × (phase_of i l % 3 ≡ 2 → (c.owner ≡ Some i) × (c.quiet ≡ true)) × (phase_of i l % 3 ≡ 2 → (node : ℕ) → node < key.shape.nodes → mark_of c node ≡ 0) in
    let may-now : P o.pool = subst P in-pool (may.to_live, may.lowest, may.to_dying, may.own, may.to_idle, may.drained) in
    let low : phase_of i o.pool < 65535 = dite (ℕ_discrete (phase_of i o.pool % 3) 0) (λ z. omega (arith, free_phase key.shape.ids i o.pool (may-now.1 z))) (λ n. omega (arith, n, phase)) in
    let k-is : k ≡ raise (decl_in found) d = is-k ∙ ap (λ x. raise x d) (ap (decl_of i) in-pool ∙ sym decl) in
    let new : ℕ = (found + k) % 18446744073709551616 in let inside : 8 * i + 3 < length s.words = omega (arith, o.wide, look_low key.shape i o.sized.shape.some_nodes o.sized.shape.tree.has_root near) in
    let look' : ℕ → ℕ = looks_in (set s.words (8 * i + 3) new) in let is = look_here s.words i new inside in
    let f = subst (λ x. packing.Fields found ((found + x) % 18446744073709551616) (refs_of found) (lookups_of found) (phase_in found + 1) d) (sym k-is) (packing.phases found d fits (omega (arith, phase, low)) (omega (arith, may.declared, sh.decls))) in
    let none-held : phase_of i o.pool % 3 ≡ 2 → total (λ (z : Claims). only_some i z.held) cs ≡ 0 = λ two. let t = may-now.4 two in (q.owned.owner id c at i t.0).quiet t.1 in
    let legal : IsNextPool key.shape.ids key.shape.decls o.pool e = by_phase (IsNextPool key.shape.ids key.shape.decls o.pool) i d word
    (λ z. let zero : phase_of i o.pool % 3 ≡ 0 = omega (arith, z, phase) in (may.declared, may-now.0 zero, may-now.1 zero, q.looked.numbers i near))
    (λ z. let one : phase_of i o.pool % 3 ≡ 1 = omega (arith, z, phase) in (one, may-now.3 (λ y. omega (arith, y, one)), q.looked.numbers i near))
    (λ z. omega (arith, z, phase)) in
    let becomes : owning.Becomes key.shape i word.phase c w.claims = record {
      same = λ z. let b = eq-eqb (word.phase % 3) 0 z in (ap {B = Maybe ℕ} (λ x. cond x c.owner (cond (eqb (word.phase % 3) 1) (Some i) None)) b, ap (λ x. cond x c.quiet false) b, ap (λ x. cond x c.drained (cond (eqb (word.phase % 3) 1) (undrained key.shape) [])) b);
      gains = λ z. let b = ne_eqb (word.phase % 3) 0 (λ y. omega (arith, y, z)) in let b' = eq-eqb (word.phase % 3) 1 z in (
        ap {B = Maybe ℕ} (λ x. cond x c.owner (cond (eqb (word.phase % 3) 1) (Some i) None)) b ∙ ap {B = Maybe ℕ} (λ x. cond x (Some i) None) b',
        ap (λ x. cond x c.quiet false) b,
        ap (λ x. cond x c.drained (cond (eqb (word.phase % 3) 1) (undrained key.shape) [])) b ∙ ap (λ x. cond x (undrained key.shape) []) b',
      );
      ends = λ z. let b = ne_eqb (word.phase % 3) 0 (λ y. omega (arith, y, z)) in ap {B = Maybe ℕ} (λ x. cond x c.owner (cond (eqb (word.phase % 3) 1) (Some i) None)) b ∙ ap {B = Maybe ℕ} (λ x. cond x (Some i) None) (ne_eqb (word.phase % 3) 1 (λ y. omega (arith, y, z)));
    } in
    let ended-now : Each (HasOwnEnd pool') (set s.views id w) = unregistering.phases key.shape o.pool s.views id i d word v w me (sym phase) (λ j z at-z x has. (q.owned.owner j z.claims (at_map claims_of s.views j z at-z) x has).dying)
    (λ j z ne at-z x has mine. absurd (omega (arith, q.owned.one x, terms_le (λ (y : Claims). only_some x y.owner) cs id j c z.claims ne at (at_map claims_of s.views j z at-z), only_some_yes x c.owner mine, only_some_yes x z.claims.owner has)))
    (λ z. (may-now.4 (omega (arith, z, phase))).0) becomes
    (ap (λ (l : List PoolEntry). v.turns.made ++ record { number = length l; entry = e } ∷ []) in-pool) o.ended in
    let owned-now : AreOwned key.shape o.now o.after pool' (set cs id w.claims) = owning.phases key.shape o.now o.after o.pool cs id i d word c w.claims at near (sym phase) (λ z. may-now.2 (omega (arith, z, phase))) (λ z. let two : phase_of i o.pool % 3 ≡ 2 = omega (arith, z, phase) in let t = may-now.4 two in (t.0, t.1, may-now.5 two)) becomes refl q.owned in
    let empty : word.phase % 3 ≡ 2 → (x : ℕ) → place_id x ≡ i → HasJournal (o.now x) [] = λ two x own. subst (HasJournal (o.now x))
    (owned-now.resting x (omega (arith, own, near)) (omega (arith, two, phase, phase_of_push i o.pool e, turn_here i d word, ap (λ z. phase_of z pool') own)))
    (listing.journal_here key.shape.parents.items o.now o.after (map holding_of s.views) q.listed x) in
    let content : RoomContent = record (in_hand v r) { pool = (in_hand v r).pool ++ e ∷ [] } in (
      w,
      keeps,
      tt,
      on_look key s o id w present pool' ended-now i new (ordering.phases key.shape.ids key.first_lookup o.now o.pool (bits_in (sizes_of key.shape) s.words) (looks_in s.words) s.views id v me present o.ordered look' w i d word (in_hand v r).pool near refl refl refl in-pool refl (ap lookups_of is ∙ f.lookups_is) (ap refs_of is ∙ f.refs_is) (look_else s.words i new inside) empty
          (λ two. ordering.unused key.shape.ids key.first_lookup o.now o.pool (bits_in (sizes_of key.shape) s.words) (looks_in s.words) s.views id v me present o.ordered i (none-held (omega (arith, two, phase))))) record {
            counted = q.counted;
            roomed = rooming.refits (IsRoom key.shape) (locks_in (sizes_of key.shape) s.words) (homes_in (sizes_of key.shape) s.homes) (IsRoomAtHome key.shape o.now o.after o.pool) (IsRoomAtHome key.shape o.now o.after pool') (Fits key.shape o.now o.after o.pool) (Fits key.shape o.now o.after pool') (map holding_of s.views) id r v.holding.half v.holding content at-holding may.room
                (record { entries = λ l. absurd (omega (arith, l)); items = λ l. absurd (omega (arith, l)); most_items = λ l. absurd (omega (arith, l)); most_entries = λ l. absurd (omega (arith, l)); turns = λ _. ap (λ (l : List PoolEntry). l ++ e ∷ []) in-pool })
                (λ x c ne fit. record { entries = fit.entries; items = fit.items; most_items = fit.most_items; most_entries = fit.most_entries; turns = λ at-pool. absurd (ne at-pool) })
                (λ x c ne kept. record { fits = record { entries = kept.fits.entries; items = kept.fits.items; most_items = kept.fits.most_items; most_entries = kept.fits.most_entries; turns = λ at-pool. absurd (ne at-pool) }; spare = λ at-pool. absurd (ne at-pool) }) q.roomed;
            listed = listing.rooms_change key.shape.parents.items o.now o.after (map holding_of s.views) id v.holding w.holding at-holding refl (λ x half h. (omega (arith, h.own, rooming.content_rooms r x content v.holding.hands), omega (arith, h.parent, rooming.content_rooms r (above key.shape.parents.items x) content v.holding.hands))) q.listed;
            traced = traces_stay key s o id v me;
            marked = marking.turns key.shape.ids (counts_in (sizes_of key.shape) s.words) (bits_in (sizes_of key.shape) s.words) (phases o.pool) (phases pool') (set (map marks_of s.views) id v.marks)
                (λ x inside live some-items. dite (ℕ_discrete (place_id x) i)
                (λ y. let zero : phase_of (place_id x) o.pool % 3 ≡ 0 = omega (arith, live, phase_of_push i o.pool e, turn_here i d word, ap (λ z. phase_of z pool') y, ap (λ z. phase_of z o.pool) y) in
                absurd (omega (arith, some-items, q.counted.is x inside, ap (λ l. length l) (q.owned.resting x inside zero))))
                (λ n. omega (arith, live, phase_of_push (place_id x) o.pool e, turn_else i (place_id x) d word n)))
                (marks_stay key s o id v me);
            looked = claiming.phases key.shape.ids key.first_lookup (looks_in s.words) look' o.pool cs id i d w.claims.owner w.claims.quiet w.claims.drained c word at near none-held may-now.3 refl refl (ap refs_of is ∙ f.refs_is) (ap lookups_of is ∙ f.lookups_is) (ap phase_in is ∙ f.phase_is) (ap decl_in is ∙ f.decl_is) (look_else s.words i new inside) q.looked;
            owned = owned-now;
            turned = subst (λ (l : List PoolEntry). AreTurns key.shape.ids key.shape.decls pool' (set (map turns_of s.views) id (record v.turns { made = v.turns.made ++ record { number = length l; entry = e } ∷ [] }))) (sym in-pool) (turning.makes key.shape.ids key.shape.decls o.pool (map turns_of s.views) id v.turns e (here s.views id v me turns_of) legal q.turned);
            dated = dating.same key.shape.ids look' pool' (map turns_of s.views) id v.turns w.turns (here s.views id v me turns_of) refl
                (dating.turns key.shape.ids look' o.pool (map turns_of s.views) i d word (sym (ap lookups_of is ∙ f.lookups_is)) (dating.rises key.shape.ids (looks_in s.words) look' o.pool (map turns_of s.views) i (omega (arith, ap lookups_of is, f.lookups_is)) (look_else s.words i new inside) q.dated));
            seated = seats_stay key s o id v me;
          },
      (refl, of_pool key s o id i v me near),
    )
