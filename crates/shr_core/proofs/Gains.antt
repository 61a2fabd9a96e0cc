-- SPDX-License-Identifier: GPL-2.0-only
-- What each step adds to a view, and what calls add one after another.
use Rattle.shr_core.proofs.Common.{◌≡◌, ℕ, ◌+◌, ◌%◌, eqb, List, [], ◌∷◌, ◌++◌, length, sym, refl, ap, ◌∙◌, arith, append_assoc, Option, Some, None, append-nil, Deed, by_seat, Object, LookupWord, Entry, Begins, begins_all, begins_push, begins_more, View, Shape, RoomContent, Event, counted, made, looked, loaded, turned, raised, cleared, mapped, places_in, in_hand, with_count, with_map, with_set, with_clear, with_taken, with_try, with_given, with_pool_given, with_stored, with_word, with_leave, with_given_up, with_lookup, with_put, put_events, with_phase, met_in, turn_at, dated_now, with_again, nothing, then_gained, Adds, map-append, Gained, AreKinds, among, seen_in, made_in, attempts_in, loaded_in, turns_in, sets_in, cleared_in, maps_in}
use Rattle.shr_core.proofs.Uses.{using_still, using_looked, using_put}

pub among-append : {A : Type 0} (f : Event → List A) (l m : List Event) → among f (l ++ m) ≡ among f l ++ among f m
among-append f [] m = refl
among-append f (e ∷ es) m = ap (λ l. f e ++ l) (among-append f es m) ∙ sym (append_assoc (f e) (among f es) (among f m))

-- a view gains nothing over itself
pub adds_none : (v : View) → Adds v v nothing
adds_none v = record {
  made = sym (append-nil _);
  seen = sym (append-nil _);
  tries = sym (append-nil _);
  maps = sym (append-nil _);
  sets = sym (append-nil _);
  cleared = sym (append-nil _);
  attempts = sym (append-nil _);
  loaded = sym (append-nil _);
  turned = sym (append-nil _);
  gives = omega arith;
  known = begins_all _;
  pool = begins_all _;
  heard = refl;
  dated = begins_all _;
  standing = refl;
  did = [];
  noted = sym (append-nil _);
  kinds = record { seen = refl; made = refl; attempts = refl; loaded = refl; turns = refl; sets = refl; cleared = refl; maps = refl };
  seat = refl;
  using = λ h. h;
}

-- what is noted in two parts is noted as it would be at once
pub noted_then : (u v w : View) (d e : List Event) → v.seat ≡ u.seat → v.did ≡ u.did ++ by_seat u.seat d → w.did ≡ v.did ++ by_seat v.seat e → w.did ≡ u.did ++ by_seat u.seat (d ++ e)
noted_then u v w d e seat a b = b ∙ (ap (λ n. v.did ++ by_seat n e) seat ∙ (ap (λ (l : List (Deed Event)). l ++ by_seat u.seat e) a ∙ (append_assoc u.did (by_seat u.seat d) (by_seat u.seat e) ∙ ap (λ (l : List (Deed Event)). u.did ++ l) (sym (map-append (λ (x : Event). record { seat = u.seat; act = x }) d e)))))

-- and so are its kinds
pub kinds_then : (d e : List Event) (g h : Gained) → AreKinds d g → AreKinds e h → AreKinds (d ++ e) (then_gained g h)
kinds_then d e g h a b = record {
  seen = among-append seen_in d e ∙ (ap (λ l. l ++ among seen_in e) a.seen ∙ ap (λ l. g.seen ++ l) b.seen);
  made = among-append made_in d e ∙ (ap (λ l. l ++ among made_in e) a.made ∙ ap (λ l. g.made ++ l) b.made);
  attempts = among-append attempts_in d e ∙ (ap (λ l. l ++ among attempts_in e) a.attempts ∙ ap (λ l. g.attempts ++ l) b.attempts);
  loaded = among-append loaded_in d e ∙ (ap (λ l. l ++ among loaded_in e) a.loaded ∙ ap (λ l. g.loaded ++ l) b.loaded);
  turns = among-append turns_in d e ∙ (ap (λ l. l ++ among turns_in e) a.turns ∙ ap (λ l. g.turns ++ l) b.turns);
  sets = among-append sets_in d e ∙ (ap (λ l. l ++ among sets_in e) a.sets ∙ ap (λ l. g.sets ++ l) b.sets);
  cleared = among-append cleared_in d e ∙ (ap (λ l. l ++ among cleared_in e) a.cleared ∙ ap (λ l. g.cleared ++ l) b.cleared);
  maps = among-append maps_in d e ∙ (ap (λ l. l ++ among maps_in e) a.maps ∙ ap (λ l. g.maps ++ l) b.maps);
}

-- what two calls add, one after the other
pub adds_then : (u v w : View) (g h : Gained) → Adds u v g → Adds v w h → Adds u w (then_gained g h)
adds_then u v w g h a b = record {
  made = b.made ∙ (ap (λ l. l ++ h.made) a.made ∙ append_assoc u.traces.made g.made h.made);
  seen = b.seen ∙ (ap (λ l. l ++ h.seen) a.seen ∙ append_assoc u.traces.seen g.seen h.seen);
  tries = b.tries ∙ (ap (λ l. l ++ h.tries) a.tries ∙ append_assoc u.traces.tries g.tries h.tries);
  maps = b.maps ∙ (ap (λ l. l ++ h.maps) a.maps ∙ append_assoc u.marks.maps g.maps h.maps);
  sets = b.sets ∙ (ap (λ l. l ++ h.sets) a.sets ∙ append_assoc u.marks.sets g.sets h.sets);
  cleared = b.cleared ∙ (ap (λ l. l ++ h.cleared) a.cleared ∙ append_assoc u.marks.cleared g.cleared h.cleared);
  attempts = b.attempts ∙ (ap (λ l. l ++ h.attempts) a.attempts ∙ append_assoc u.claims.attempts g.attempts h.attempts);
  loaded = b.loaded ∙ (ap (λ l. l ++ h.loaded) a.loaded ∙ append_assoc u.claims.loaded g.loaded h.loaded);
  turned = b.turned ∙ (ap (λ l. l ++ h.turns) a.turned ∙ append_assoc u.turns.made g.turns h.turns);
  gives = omega (arith, a.gives, b.gives);
  known = begins_more u.traces.known v.traces.known w.traces.known a.known b.known;
  pool = begins_more u.turns.known v.turns.known w.turns.known a.pool b.pool;
  heard = b.heard ∙ a.heard;
  dated = begins_more u.turns.dated v.turns.dated w.turns.dated a.dated b.dated;
  standing = b.standing ∙ a.standing;
  did = a.did ++ b.did;
  noted = noted_then u v w a.did b.did a.seat a.noted b.noted;
  kinds = kinds_then a.did b.did g h a.kinds b.kinds;
  seat = b.seat ∙ a.seat;
  using = λ h. b.using (a.using h);
}

-- what is gained with nothing behind it
pub gained_alone : (g : Gained) → then_gained g nothing ≡ g
gained_alone g = let m = append-nil g.made in let s = append-nil g.seen in let t = append-nil g.tries in let p = append-nil g.maps in let b = append-nil g.sets in let c = append-nil g.cleared in
    let a = append-nil g.attempts in let l = append-nil g.loaded in let u = append-nil g.turns in let n : g.gives + 0 ≡ g.gives = omega arith in
    λ i. record { made = m i; seen = s i; tries = t i; maps = p i; sets = b i; cleared = c i; attempts = a i; loaded = l i; turns = u i; gives = n i }

-- a load of a count word
pub of_count : (v : View) (k len version : ℕ) → Adds v (with_count v k len version) (record nothing { seen = record { place = k; len = len; version = version } ∷ [] })
of_count v k len version = let n = adds_none v in record {
  made = n.made;
  seen = refl;
  tries = n.tries;
  maps = n.maps;
  sets = n.sets;
  cleared = n.cleared;
  attempts = n.attempts;
  loaded = n.loaded;
  turned = n.turned;
  gives = n.gives;
  known = n.known;
  pool = n.pool;
  heard = n.heard;
  dated = n.dated;
  standing = n.standing;
  did = counted (record { place = k; len = len; version = version }) ∷ [];
  noted = refl;
  kinds = record { seen = refl; made = refl; attempts = refl; loaded = refl; turns = refl; sets = refl; cleared = refl; maps = refl };
  seat = refl;
  using = using_still v (with_count v k len version) (counted (record { place = k; len = len; version = version }) ∷ []) refl refl refl (λ u. refl);
}

-- a load of a bit word
pub of_map : (v : View) (map bits : ℕ) → Adds v (with_map v map bits) (record nothing { maps = record { map = map; bits = bits; set = v.marks.sets } ∷ [] })
of_map v map bits = let n = adds_none v in record {
  made = n.made;
  seen = n.seen;
  tries = n.tries;
  maps = refl;
  sets = n.sets;
  cleared = n.cleared;
  attempts = n.attempts;
  loaded = n.loaded;
  turned = n.turned;
  gives = n.gives;
  known = n.known;
  pool = n.pool;
  heard = n.heard;
  dated = n.dated;
  standing = n.standing;
  did = mapped (record { map = map; bits = bits; set = v.marks.sets }) ∷ [];
  noted = refl;
  kinds = record { seen = refl; made = refl; attempts = refl; loaded = refl; turns = refl; sets = refl; cleared = refl; maps = refl };
  seat = refl;
  using = using_still v (with_map v map bits) (mapped (record { map = map; bits = bits; set = v.marks.sets }) ∷ []) refl refl refl (λ u. refl);
}

-- what setting a bit adds
pub of_set : (v : View) (k : ℕ) → Adds v (with_set v k) (record nothing { sets = k ∷ [] })
of_set v k = let n = adds_none v in record {
  made = n.made;
  seen = n.seen;
  tries = n.tries;
  maps = n.maps;
  sets = refl;
  cleared = n.cleared;
  attempts = n.attempts;
  loaded = n.loaded;
  turned = n.turned;
  gives = n.gives;
  known = n.known;
  pool = n.pool;
  heard = n.heard;
  dated = n.dated;
  standing = n.standing;
  did = raised k ∷ [];
  noted = refl;
  kinds = record { seen = refl; made = refl; attempts = refl; loaded = refl; turns = refl; sets = refl; cleared = refl; maps = refl };
  seat = refl;
  using = using_still v (with_set v k) (raised k ∷ []) refl refl refl (λ u. refl);
}

-- what clearing a bit adds
pub of_clear : (v : View) (k : ℕ) → Adds v (with_clear v k) (record nothing { cleared = k ∷ [] })
of_clear v k = let n = adds_none v in record {
  made = n.made;
  seen = n.seen;
  tries = n.tries;
  maps = n.maps;
  sets = n.sets;
  cleared = refl;
  attempts = n.attempts;
  loaded = n.loaded;
  turned = n.turned;
  gives = n.gives;
  known = n.known;
  pool = n.pool;
  heard = n.heard;
  dated = n.dated;
  standing = n.standing;
  did = cleared k ∷ [];
  noted = refl;
  kinds = record { seen = refl; made = refl; attempts = refl; loaded = refl; turns = refl; sets = refl; cleared = refl; maps = refl };
  seat = refl;
  using = using_still v (with_clear v k) (cleared k ∷ []) refl refl refl (λ u. refl);
}

-- a room was taken, was tried in vain, or was given back
pub of_taken : (v : View) (r : ℕ) (c : RoomContent) → Adds v (with_taken v r c) nothing
of_taken v r c = let n = adds_none v in record {
  made = n.made;
  seen = n.seen;
  tries = n.tries;
  maps = n.maps;
  sets = n.sets;
  cleared = n.cleared;
  attempts = n.attempts;
  loaded = n.loaded;
  turned = n.turned;
  gives = n.gives;
  known = n.known;
  pool = n.pool;
  heard = n.heard;
  dated = n.dated;
  standing = n.standing;
  did = [];
  noted = sym (append-nil _);
  kinds = record { seen = refl; made = refl; attempts = refl; loaded = refl; turns = refl; sets = refl; cleared = refl; maps = refl };
  seat = refl;
  using = λ h. h;
}

-- what a try in vain adds
pub of_try : (v : View) (k : ℕ) → Adds v (with_try v k) (record nothing { tries = k ∷ [] })
of_try v k = let n = adds_none v in record {
  made = n.made;
  seen = n.seen;
  tries = refl;
  maps = n.maps;
  sets = n.sets;
  cleared = n.cleared;
  attempts = n.attempts;
  loaded = n.loaded;
  turned = n.turned;
  gives = n.gives;
  known = n.known;
  pool = n.pool;
  heard = n.heard;
  dated = n.dated;
  standing = n.standing;
  did = [];
  noted = sym (append-nil _);
  kinds = record { seen = refl; made = refl; attempts = refl; loaded = refl; turns = refl; sets = refl; cleared = refl; maps = refl };
  seat = refl;
  using = λ h. h;
}

-- giving a room back adds nothing
pub of_given : (v : View) (k : ℕ) → Adds v (with_given v k) nothing
of_given v k = let n = adds_none v in record {
  made = n.made;
  seen = n.seen;
  tries = n.tries;
  maps = n.maps;
  sets = n.sets;
  cleared = n.cleared;
  attempts = n.attempts;
  loaded = n.loaded;
  turned = n.turned;
  gives = n.gives;
  known = begins_push v.traces.known (record { place = k; entries = (in_hand v k).entries });
  pool = n.pool;
  heard = n.heard;
  dated = n.dated;
  standing = n.standing;
  did = [];
  noted = sym (append-nil _);
  kinds = record { seen = refl; made = refl; attempts = refl; loaded = refl; turns = refl; sets = refl; cleared = refl; maps = refl };
  seat = refl;
  using = λ h. h;
}

-- giving the pool back is counted
pub of_pool_given : (v : View) (r : ℕ) → Begins v.turns.known (in_hand v r).pool → Adds v (with_pool_given v r) (record nothing { gives = 1 })
of_pool_given v r grown = let n = adds_none v in record {
  made = n.made;
  seen = n.seen;
  tries = n.tries;
  maps = n.maps;
  sets = n.sets;
  cleared = n.cleared;
  attempts = n.attempts;
  loaded = n.loaded;
  turned = n.turned;
  gives = refl;
  known = n.known;
  pool = grown;
  heard = n.heard;
  dated = (dated_now v.claims (length (in_hand v r).pool), refl);
  standing = n.standing;
  did = [];
  noted = sym (append-nil _);
  kinds = record { seen = refl; made = refl; attempts = refl; loaded = refl; turns = refl; sets = refl; cleared = refl; maps = refl };
  seat = refl;
  using = λ h. h;
}

-- the count of one entry more was stored
pub of_stored : (v : View) (k : ℕ) (e : Entry) (items : List Object) → Adds v (with_stored v k e items) (record nothing { made = record { place = k; number = length (in_hand v k).entries; entry = e; items = (in_hand v k).items } ∷ [] })
of_stored v k e items = let n = adds_none v in record {
  made = refl;
  seen = n.seen;
  tries = n.tries;
  maps = n.maps;
  sets = n.sets;
  cleared = n.cleared;
  attempts = n.attempts;
  loaded = n.loaded;
  turned = n.turned;
  gives = n.gives;
  known = n.known;
  pool = n.pool;
  heard = n.heard;
  dated = n.dated;
  standing = n.standing;
  did = made (record { place = k; number = length (in_hand v k).entries; entry = e; items = (in_hand v k).items }) ∷ [];
  noted = refl;
  kinds = record { seen = refl; made = refl; attempts = refl; loaded = refl; turns = refl; sets = refl; cleared = refl; maps = refl };
  seat = refl;
  using = using_still v (with_stored v k e items) (made (record { place = k; number = length (in_hand v k).entries; entry = e; items = (in_hand v k).items }) ∷ []) refl refl refl (λ u. refl);
}

-- a load of a lookup word
pub of_word : (v : View) (id : ℕ) (word : LookupWord) → Adds v (with_word v id word) (record nothing { loaded = record { id = id; word = word } ∷ [] })
of_word v id word = let n = adds_none v in record {
  made = n.made;
  seen = n.seen;
  tries = n.tries;
  maps = n.maps;
  sets = n.sets;
  cleared = n.cleared;
  attempts = n.attempts;
  loaded = refl;
  turned = n.turned;
  gives = n.gives;
  known = n.known;
  pool = n.pool;
  heard = n.heard;
  dated = n.dated;
  standing = n.standing;
  did = loaded (record { id = id; word = word }) ∷ [];
  noted = refl;
  kinds = record { seen = refl; made = refl; attempts = refl; loaded = refl; turns = refl; sets = refl; cleared = refl; maps = refl };
  seat = refl;
  using = using_still v (with_word v id word) (loaded (record { id = id; word = word }) ∷ []) refl refl refl (λ u. refl);
}

-- what the load before a lookup adds
pub of_leave : (v : View) (id : ℕ) (word : LookupWord) → Adds v (with_leave v id word) (record nothing { loaded = record { id = id; word = word } ∷ [] })
of_leave v id word = let n = adds_none v in record {
  made = n.made;
  seen = n.seen;
  tries = n.tries;
  maps = n.maps;
  sets = n.sets;
  cleared = n.cleared;
  attempts = n.attempts;
  loaded = refl;
  turned = n.turned;
  gives = n.gives;
  known = n.known;
  pool = n.pool;
  heard = n.heard;
  dated = n.dated;
  standing = n.standing;
  did = loaded (record { id = id; word = word }) ∷ [];
  noted = refl;
  kinds = record { seen = refl; made = refl; attempts = refl; loaded = refl; turns = refl; sets = refl; cleared = refl; maps = refl };
  seat = refl;
  using = using_still v (with_leave v id word) (loaded (record { id = id; word = word }) ∷ []) refl refl refl (λ u. refl);
}

-- what giving an id up adds
pub of_given_up : (v : View) (id : ℕ) (word : LookupWord) → Adds v (with_given_up v id word) (record nothing { loaded = record { id = id; word = word } ∷ [] })
of_given_up v id word = let n = adds_none v in record {
  made = n.made;
  seen = n.seen;
  tries = n.tries;
  maps = n.maps;
  sets = n.sets;
  cleared = n.cleared;
  attempts = n.attempts;
  loaded = refl;
  turned = n.turned;
  gives = n.gives;
  known = n.known;
  pool = n.pool;
  heard = n.heard;
  dated = n.dated;
  standing = n.standing;
  did = loaded (record { id = id; word = word }) ∷ [];
  noted = refl;
  kinds = record { seen = refl; made = refl; attempts = refl; loaded = refl; turns = refl; sets = refl; cleared = refl; maps = refl };
  seat = refl;
  using = using_still v (with_given_up v id word) (loaded (record { id = id; word = word }) ∷ []) refl refl refl (λ u. refl);
}

-- a lookup of a seat that holds nothing
pub of_lookup : (v : View) (id : ℕ) (word : LookupWord) → v.claims.held ≡ None → Adds v (with_lookup v id word) (record nothing { attempts = record { id = id; number = word.lookups; held = met_in word } ∷ [] })
of_lookup v id word free = let n = adds_none v in record {
  made = n.made;
  seen = n.seen;
  tries = n.tries;
  maps = n.maps;
  sets = n.sets;
  cleared = n.cleared;
  attempts = refl;
  loaded = n.loaded;
  turned = n.turned;
  gives = n.gives;
  known = n.known;
  pool = n.pool;
  heard = n.heard;
  dated = n.dated;
  standing = n.standing;
  did = looked (record { id = id; number = word.lookups; held = met_in word }) ∷ [];
  noted = refl;
  kinds = record { seen = refl; made = refl; attempts = refl; loaded = refl; turns = refl; sets = refl; cleared = refl; maps = refl };
  seat = refl;
  using = using_looked v (with_lookup v id word) id word.decl word.lookups (eqb (word.phase % 3) 1) free refl refl refl;
}

-- a lookup of an id that was met, of a seat that holds nothing
pub of_again : (v : View) (id : ℕ) (word : LookupWord) → v.claims.held ≡ None → Adds v (with_again v id word) (record nothing { attempts = record { id = id; number = word.lookups; held = met_in word } ∷ []; gives = 1 })
of_again v id word free = let n = of_lookup v id word free in record {
  made = n.made;
  seen = n.seen;
  tries = n.tries;
  maps = n.maps;
  sets = n.sets;
  cleared = n.cleared;
  attempts = n.attempts;
  loaded = n.loaded;
  turned = n.turned;
  gives = refl;
  known = n.known;
  pool = n.pool;
  heard = n.heard;
  dated = (record { id = id; number = word.lookups; entries = length v.turns.known } ∷ [], refl);
  standing = n.standing;
  did = n.did;
  noted = n.noted;
  kinds = record { seen = n.kinds.seen; made = n.kinds.made; attempts = n.kinds.attempts; loaded = n.kinds.loaded; turns = n.kinds.turns; sets = n.kinds.sets; cleared = n.kinds.cleared; maps = n.kinds.maps };
  seat = n.seat;
  using = using_looked v (with_again v id word) id word.decl word.lookups (eqb (word.phase % 3) 1) free refl refl refl;
}

no_kinds : (held probe : Option ℕ) → AreKinds (put_events held probe) nothing
no_kinds (Some i) probe = record { seen = refl; made = refl; attempts = refl; loaded = refl; turns = refl; sets = refl; cleared = refl; maps = refl }
no_kinds None (Some i) = record { seen = refl; made = refl; attempts = refl; loaded = refl; turns = refl; sets = refl; cleared = refl; maps = refl }
no_kinds None None = record { seen = refl; made = refl; attempts = refl; loaded = refl; turns = refl; sets = refl; cleared = refl; maps = refl }

-- giving a reference back adds nothing that is told
pub of_put : (v : View) → Adds v (with_put v) nothing
of_put v = let n = adds_none v in record {
  made = n.made;
  seen = n.seen;
  tries = n.tries;
  maps = n.maps;
  sets = n.sets;
  cleared = n.cleared;
  attempts = n.attempts;
  loaded = n.loaded;
  turned = n.turned;
  gives = n.gives;
  known = n.known;
  pool = n.pool;
  heard = n.heard;
  dated = n.dated;
  standing = n.standing;
  did = put_events v.claims.held v.claims.probe;
  noted = refl;
  kinds = no_kinds v.claims.held v.claims.probe;
  seat = refl;
  using = using_put v;
}

-- a phase step
pub of_phase : (v : View) (shape : Shape) (id decl : ℕ) (word : LookupWord) → Adds v (with_phase shape v id decl word) (record nothing { turns = record { number = length (in_hand v (places_in shape.ids)).pool; entry = turn_at id decl word } ∷ [] })
of_phase v shape id decl word = let n = adds_none v in record {
  made = n.made;
  seen = n.seen;
  tries = n.tries;
  maps = n.maps;
  sets = n.sets;
  cleared = n.cleared;
  attempts = n.attempts;
  loaded = n.loaded;
  turned = refl;
  gives = n.gives;
  known = n.known;
  pool = n.pool;
  heard = n.heard;
  dated = n.dated;
  standing = n.standing;
  did = turned (record { number = length (in_hand v (places_in shape.ids)).pool; entry = turn_at id decl word }) ∷ [];
  noted = refl;
  kinds = record { seen = refl; made = refl; attempts = refl; loaded = refl; turns = refl; sets = refl; cleared = refl; maps = refl };
  seat = refl;
  using = using_still v (with_phase shape v id decl word) (turned (record { number = length (in_hand v (places_in shape.ids)).pool; entry = turn_at id decl word }) ∷ []) refl refl refl (λ u. refl);
}
