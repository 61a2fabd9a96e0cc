-- SPDX-License-Identifier: GPL-2.0-only
-- What a call answers once the pool is given back.
use Rattle.shr_registry.proofs.Common.{◌≡◌, ℕ, ◌+◌, ◌<◌, List, [], ◌∷◌, ◌++◌, length, sym, refl, ap, subst, ◌∙◌, Contains-push, PoolEntry, Spent, Begins, View, Shape, Claims, Holding, Turn, no_rooms, places_in, pool_content, in_hand, with_taken, with_pool_given, FindAnswer, RegisterAnswer, Brings, only_pool, IsFree, FindGives, IsDatedBy, RegisterGives, FindWorn, Misses, ended_turn, Gained, nothing, Setting, Registered, Each, Some, Contains, Option, Dated, dated_now, dating_of, RetireGives}
use Rattle.shr_base.specs.declared.replies.Spent.TheVariants as spent
use Rattle.shr_registry.specs.declared.answers.FindAnswer.TheVariants as find
use Rattle.shr_registry.specs.declared.answers.RegisterAnswer.TheVariants as register
use Rattle.shr_registry.specs.declared.retiring.Retired.{Retired}
use Rattle.shr_registry.specs.declared.retiring.Retired.TheVariants as retired
use Rattle.shr_seats.specs.Standing.{IsWhole}
use Rattle.shr_registry.proofs.Adds.{brings_between, journal}

-- a held id is the last that was dated
dated_held : (old : List Dated) (c : Claims) (id number entry entries : ℕ) → c.held ≡ Some id → c.number ≡ number → entry ≡ entries → Contains (old ++ dated_now c entries) (record { id = id; number = number; entries = entry })
dated_held old c id number entry entries held drawn after =
    let new : ℕ → ℕ → ℕ → Dated = λ x y z. record { id = x; number = y; entries = z } in
    let is : dated_now c entries ≡ new id number entry ∷ [] = ap (λ (x : Option ℕ). dating_of x c.number entries) held ∙ (λ i. new id (drawn i) (sym after i) ∷ []) in
    subst (λ (l : List Dated). Contains (old ++ l) (new id number entry)) (sym is) (Contains-push old (new id number entry))

-- the pool was taken with the journal `old`, and is given back with the journal `new`
module _ (key : Setting) (v u w : View) (old new : List PoolEntry) (taken : u ≡ with_taken v (places_in key.shape.ids) (pool_content old)) (begins : Begins v.turns.known new)
    (holding : w.holding ≡ only_pool key.shape new) (same : w.turns.known ≡ u.turns.known) where
  abbrev shape : Shape
  shape = key.shape

  -- the view once the pool was given back
  abbrev pub last : View
  last = with_pool_given w (places_in shape.ids)

  gains : (g : Gained) → Brings u w g → Brings v last (record g { gives = g.gives + 1 })
  gains g a = brings_between shape v u w last old new g taken begins holding same refl a

  known : new ≡ last.turns.known
  known = sym (journal shape w new holding)

  free : IsFree w → IsFree last
  free f = record { held = f.held; owner = f.owner }

  worn : (decl : ℕ) (s : Spent) → FindWorn shape u decl new s w → FindWorn shape v decl new s last
  worn decl (spent.Lookups id seen) f = let h = f.loads in record {
    live = f.live;
    most = f.most;
    first = f.first;
    shown = f.shown;
    loads = record { words = h.words; since = h.since ∙ ap (λ (x : View). x.claims.loaded ++ h.words) taken; shown = h.shown };
  }
  worn decl (spent.List place entries items) f = f
  worn decl (spent.Charges charges uncharges) f = f

  misses : (decl entry : ℕ) → Misses shape u decl new 0 entry w → Misses shape v decl new 1 entry last
  misses decl entry f = record { missing = f.missing; after = f.after; free = free f.free; gains = gains nothing f.gains }

  find_now : (decl : ℕ) (answer : FindAnswer) → FindGives shape u decl new 0 answer w → FindGives shape v decl new 1 answer last
  find_now decl (find.Held id number entry) f = let h = f.holds in record {
    live = f.live;
    after = f.after;
    registered = f.registered;
    began = f.began;
    first = f.first;
    left = f.left;
    shows = f.shows;
    holds = record { held = h.held; drawn = h.drawn; named = h.named; owner = h.owner };
    gains = gains (record nothing { attempts = record { id = id; number = number; held = Some decl } ∷ [] }) f.gains;
  }
  find_now decl (find.NoCache entry) f = misses decl entry f
  find_now decl (find.Worn s) f = record { worn = worn decl s f.worn; free = free f.free; gains = gains nothing f.gains }

  -- an id that is held when the pool is given back is dated
  pub find_dated : (decl : ℕ) (answer : FindAnswer) (z : View) → z ≡ last → FindGives shape u decl new 0 answer w → IsDatedBy answer z
  find_dated decl (find.Held id number entry) z is f = subst (λ (x : View). Contains x.turns.dated (record { id = id; number = number; entries = entry })) (sym is)
      (dated_held w.turns.dated w.claims id number entry (length (in_hand w (places_in shape.ids)).pool) f.holds.held f.holds.drawn (f.after ∙ ap (λ (l : List PoolEntry). length l) (sym (journal shape w new holding))))
  find_dated decl (find.NoCache entry) z is f = tt
  find_dated decl (find.Worn s) z is f = tt

  register_now : (decl : ℕ) (answer : RegisterAnswer) → RegisterGives key u decl new 0 answer w → RegisterGives key v decl new 1 answer last
  register_now decl (register.AlreadyRegistered entry) f = record { live = f.live; after = f.after; free = free f.free; gains = gains nothing f.gains }
  register_now decl (register.NoId entry) f = record { misses = misses decl entry f.misses; none = f.none }
  register_now decl register.Memory f = record { id = f.id; missing = f.missing; lowest = f.lowest; free = free f.free; gains = gains nothing f.gains }
  register_now decl (register.Registered id entry) f = record {
    before = f.before;
    from = f.from;
    missing = f.missing;
    lowest = f.lowest;
    after = f.after;
    grown = f.grown;
    seen = subst (λ (x : View). Begins x.turns.known f.before) taken f.seen;
    first = λ first whole untried. f.first (ap (λ (x : View). x.standing.first) taken ∙ first) (subst (λ (x : View). IsWhole x.standing) (sym taken) whole) (ap (λ (x : View). x.claims.attempts) taken ∙ untried);
    free = free f.free;
    gains = gains (record nothing { turns = record { number = entry; entry = Registered decl id f.from } ∷ [] }) f.gains;
  }

  -- what `find` answered stays so once the pool was given back
  pub find_given : (decl : ℕ) (answer : FindAnswer) (z : View) → z ≡ last → FindGives shape u decl new 0 answer w → FindGives shape v decl z.turns.known 1 answer z
  find_given decl answer z is f = subst (λ (x : View). FindGives shape v decl x.turns.known 1 answer x) (sym is) (subst (λ (l : List PoolEntry). FindGives shape v decl l 1 answer last) known (find_now decl answer f))

  -- the same for `register`
  pub register_given : (decl : ℕ) (answer : RegisterAnswer) (z : View) → z ≡ last → RegisterGives key u decl new 0 answer w → RegisterGives key v decl z.turns.known 1 answer z
  register_given decl answer z is f = subst (λ (x : View). RegisterGives key v decl x.turns.known 1 answer x) (sym is) (subst (λ (l : List PoolEntry). RegisterGives key v decl l 1 answer last) known (register_now decl answer f))

  retire_now : (decl : ℕ) (answer : Retired) → RetireGives shape u decl new 0 answer w → RetireGives shape v decl new 1 answer last
  retire_now decl (retired.NoCache entry) f = misses decl entry f
  retire_now decl retired.Memory f = record { id = f.id; live = f.live; free = free f.free; gains = gains nothing f.gains }
  retire_now decl (retired.Dying id entry from to) f = record {
    before = f.before;
    ended = f.ended;
    grown = f.grown;
    seen = subst (λ (x : View). Begins x.turns.known f.before) taken f.seen;
    later = subst (λ (x : View). Each (λ (t : Turn). t.number < length f.before) x.turns.made) taken f.later;
    owns = record { held = f.owns.held; owner = f.owns.owner; drained = f.owns.drained };
    gains = gains (record nothing { turns = ended_turn f.before decl id to ∷ [] }) f.gains;
  }

  -- the same for the step to dying
  pub retire_given : (decl : ℕ) (answer : Retired) (z : View) → z ≡ last → RetireGives shape u decl new 0 answer w → RetireGives shape v decl z.turns.known 1 answer z
  retire_given decl answer z is f = subst (λ (x : View). RetireGives shape v decl x.turns.known 1 answer x) (sym is) (subst (λ (l : List PoolEntry). RetireGives shape v decl l 1 answer last) known (retire_now decl answer f))

-- the pool alone is in hand once it was taken
pub taken_pool : (shape : Shape) (v u : View) (old : List PoolEntry) → v.holding ≡ no_rooms → u ≡ with_taken v (places_in shape.ids) (pool_content old) → u.holding ≡ only_pool shape old
taken_pool shape v u old none taken = ap (λ (x : View). x.holding) taken ∙ ap (λ (h : Holding). record h { hands = record { room = places_in shape.ids; content = pool_content old } ∷ h.hands }) none
