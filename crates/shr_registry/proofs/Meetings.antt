-- SPDX-License-Identifier: GPL-2.0-only
-- What a lookup with the pool in hand finds.
use Rattle.shr_registry.proofs.Common.{◌≡◌, ℕ, ◌%◌, ◌<◌, ◌≤◌, Bool, true, false, cond, List, [], ◌∷◌, ◌++◌, length, sym, ap, subst, ◌∙◌, eq-eqb, append_assoc, Some, None, Option, Contains-push, LookupWord, PoolEntry, is_live, is_live_decl, from_of, View, Shape, Holding, Claims, places_in, has_room, content_in, HasPool, pool_of, Brings, Loads, IsLiveAs, IsFree, IsHeldBy, Misses, FindsCache, Gained, nothing, Adds, registrations, decl_at, Tried, Loaded, with_leave, with_lookup, ShowsWord, HasLoaded, FindsNoNumber}
use Rattle.shr_base.specs.declared.replies.Spent.TheVariants as spent
use Rattle.shr_core.specs.declared.lookups.Lookup.TheVariants as lookup
use Rattle.shr_core.specs.Answers.{Finds, MetBy}
use Rattle.shr_registry.proofs.Searches.{loads_word}
use Rattle.shr_registry.proofs.Adds.{brings_then, brings_loads}
use Rattle.shr_core.proofs.Gains.{of_leave, of_lookup}

-- the load before a lookup
pub brings_leave : (u : View) (id : ℕ) (first : LookupWord) → Brings u (with_leave u id first) nothing
brings_leave u id first = record { words = record { id = id; word = first } ∷ []; adds = of_leave u id first; owed = (loads_word u id first).owed }

-- the lookup of a live id
pub brings_lookup : (u : View) (id : ℕ) (first found : LookupWord) → u.claims.held ≡ None → found.phase % 3 ≡ 1 → Brings u (with_lookup (with_leave u id first) id found) (record nothing { attempts = record { id = id; number = found.lookups; held = Some found.decl } ∷ [] })
brings_lookup u id first found free live = let z : View = with_leave u id first in
    let tried : Bool → List Tried = λ b. record { id = id; number = found.lookups; held = cond b (Some found.decl) None } ∷ [] in
    let looked : Adds z (with_lookup z id found) (record nothing { attempts = record { id = id; number = found.lookups; held = Some found.decl } ∷ [] }) = subst (λ (l : List Tried). Adds z (with_lookup z id found) (record nothing { attempts = l })) (ap tried (eq-eqb (found.phase % 3) 1 live)) (of_lookup z id found free) in
    brings_then u z (with_lookup z id found) nothing (record nothing { attempts = record { id = id; number = found.lookups; held = Some found.decl } ∷ [] }) (brings_leave u id first) (record { words = []; adds = looked; owed = λ k h. h })

-- words that were loaded change nothing of what is held and owned
pub free_loads : (v u : View) → Loads v u → IsFree v → IsFree u
free_loads v u a free = record { held = ap (λ (c : Claims). c.held) a.claims ∙ free.held; owner = ap (λ (c : Claims). c.owner) a.claims ∙ free.owner }

-- the pool is in hand still
pub pool_still : (shape : Shape) (v u : View) → Loads v u → HasPool shape v → HasPool shape u
pool_still shape v u a has = subst (λ (h : Holding). 0 < has_room (places_in shape.ids) h) (sym a.holding) has

-- loads of words leave the pool's journal in hand
pub journal_still : (shape : Shape) (v u : View) → Loads v u → pool_of shape u ≡ pool_of shape v
journal_still shape v u a = ap (λ (h : Holding). (content_in (places_in shape.ids) h.hands).pool) a.holding

-- no id is live with the declaration
pub none_found : (shape : Shape) (v u : View) (decl entry : ℕ) (pool : List PoolEntry) → Loads v u → IsFree v → is_live_decl shape.ids decl pool ≡ false → entry ≡ length pool → Misses shape v decl pool 0 entry u
none_found shape v u decl entry pool a free none long = record { missing = none; after = long; free = free_loads v u a free; gains = brings_loads v u a }

module _ (shape : Shape) (v u w : View) (decl id : ℕ) (a : Loads v u) (has : HasPool shape v) (free : IsFree v) (live : IsLiveAs shape (pool_of shape v) id decl) where
  -- a live id is not gone
  pub not_gone : (number : ℕ) → MetBy shape u id (lookup.Gone number) → ⊥
  not_gone number met = let m = met (pool_still shape v u a has) in
      let yes : is_live id (pool_of shape u) ≡ true = ap (is_live id) (journal_still shape v u a) ∙ live.live in let no : true ≡ false = sym yes ∙ m.gone in absurd (cc)

  -- it is held
  pub id_found : (number d entry : ℕ) → Finds u id w (lookup.Held number d) → MetBy shape u id (lookup.Held number d) → entry ≡ length (pool_of shape v) → FindsCache shape v decl (pool_of shape v) 0 id number entry w
  id_found number d entry f met long = let m = met (pool_still shape v u a has) in let same = journal_still shape v u a in
      let z : View = with_lookup (with_leave u id f.first) id f.found in let yes = eq-eqb (f.found.phase % 3) 1 f.live in
      let named : d ≡ decl = m.named ∙ (ap (Rattle.shr_model.specs.Pool.decl_of id) same ∙ live.named) in
      let tried : ℕ → ℕ → Gained = λ x y. record nothing { attempts = record { id = id; number = x; held = Some y } ∷ [] } in
      let all : Brings v z (tried f.found.lookups f.found.decl) = brings_then v u z nothing (tried f.found.lookups f.found.decl) (brings_loads v u a) (brings_lookup u id f.first f.found (free_loads v u a free).held f.live) in
      let numbered : Brings v z (tried number decl) = subst (λ (x : ℕ). Brings v z (tried x decl)) f.drawn (subst (λ (x : ℕ). Brings v z (tried f.found.lookups x)) (f.named ∙ named) all) in
      let held : IsHeldBy z id number decl = record {
        held = ap {B = Option ℕ} (λ b. cond b (Some id) u.claims.held) yes;
        drawn = ap (λ b. cond b f.found.lookups u.claims.number) yes ∙ f.drawn;
        named = ap (λ b. cond b f.found.decl u.claims.decl) yes ∙ (f.named ∙ named);
        owner = (free_loads v u a free).owner;
      } in record {
        live = live;
        after = long;
        registered = subst (λ (l : List PoolEntry). decl_at number (registrations id l) ≡ Some decl) same (subst (λ (x : ℕ). decl_at number (registrations id (pool_of shape u)) ≡ Some x) named m.registered);
        began = subst (λ (l : List PoolEntry). from_of id l ≤ number) same m.began;
        first = f.first;
        left = f.left;
        shows = subst (λ (x : View). ShowsWord x id f.first) (sym f.step) (Contains-push u.claims.loaded (record { id = id; word = f.first }));
        holds = subst (λ (x : View). IsHeldBy x id number decl) (sym f.step) held;
        gains = subst (λ (x : View). Brings v x (tried number decl)) (sym f.step) numbered;
      }

  -- or its numbers are used up
  pub used_up : (seen : ℕ) → Finds u id w (lookup.Worn seen) → FindsNoNumber shape v decl (pool_of shape v) 0 (spent.Lookups id seen) w
  used_up seen f = let z : View = with_leave u id f.first in let rest = free_loads v u a free in
      let word : Loaded = record { id = id; word = f.first } in
      let loaded : HasLoaded v w id f.first = record {
        words = a.loaded.0 ++ word ∷ [];
        since = ap (λ (x : View). x.claims.loaded) f.step ∙ (ap (λ (l : List Loaded). l ++ word ∷ []) a.loaded.1 ∙ append_assoc v.claims.loaded a.loaded.0 (word ∷ []));
        shown = Contains-push a.loaded.0 word;
      } in record {
        worn = record { live = live; most = f.used_up; first = f.first; shown = f.shown; loads = loaded };
        free = subst IsFree (sym f.step) (record { held = rest.held; owner = rest.owner });
        gains = subst (λ (x : View). Brings v x nothing) (sym f.step) (brings_then v u z nothing nothing (brings_loads v u a) (brings_leave u id f.first));
      }

  -- what is in hand and known
  pub held_same : (number d : ℕ) → Finds u id w (lookup.Held number d) → (w.holding ≡ v.holding) × (w.turns.known ≡ v.turns.known)
  held_same number d f = (ap (λ (x : View). x.holding) f.step ∙ a.holding, ap (λ (x : View). x.turns.known) f.step ∙ ap (λ t. t.known) a.turns)

  -- a lookup that is refused leaves rooms and journal
  pub worn_same : (seen : ℕ) → Finds u id w (lookup.Worn seen) → (w.holding ≡ v.holding) × (w.turns.known ≡ v.turns.known)
  worn_same seen f = (ap (λ (x : View). x.holding) f.step ∙ a.holding, ap (λ (x : View). x.turns.known) f.step ∙ ap (λ t. t.known) a.turns)
