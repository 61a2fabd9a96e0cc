-- SPDX-License-Identifier: GPL-2.0-only
-- Nothing stands in the way of the first registrations: none is live, and an id is free.
use Rattle.shr_tables.proofs.Common.{◌≡◌, ℕ, zero, suc, ◌+◌, ◌<◌, Bool, true, false, List, [], ◌∷◌, ◌++◌, length, get_or, take, sym, refl, ap, subst, ◌∙◌, arith, Some, nat_tests, CacheDecl, View, HasEntered, ◌≤◌, ◌%◌, cond, nat_lt, drop, length-append, ◌==◌, ◌&&◌, if◌then◌else◌, Option, None, AreBefore}
use Rattle.std.specs.List.{count_by}
use Rattle.std.proofs.lemmas.List.{append-nil, nil_from_length, take-append-drop}
use Rattle.std.proofs.lemmas.Grind.{take_at_read}
use Rattle.std.proofs.lemmas.List.Sums.{sum_by-cons}
use Rattle.shr_base.specs.declared.journals.PoolEntry.{PoolEntry}
use Rattle.shr_base.specs.declared.journals.PoolEntry.TheVariants.{Registered, Unregistered, Idle}
use Rattle.shr_model.specs.Pool.{id_of, phase_of, decl_after, decl_from, decl_of, is_live, is_live_below, is_live_decl, is_free, lowest_free, lowest_idle}
use Rattle.shr_core.specs.declared.setting.Setting.{Setting}
use Rattle.shr_core.specs.Parts.{Turn}
use Rattle.shr_registry.specs.Answers.{FindsLive, FindsNoId, Registers}

-- and so below the next
pub before_next : (decl : ℕ) (es : List PoolEntry) → AreBefore decl es → AreBefore (decl + 1) es
before_next decl [] h = tt
before_next decl (Registered d i from ∷ es) h = let low = h.0 in (omega (arith, low), before_next decl es h.1)
before_next decl (Unregistered d i to ∷ es) h = h
before_next decl (Idle i ∷ es) h = h

pub before_more : (decl : ℕ) (es more : List PoolEntry) → AreBefore decl es → AreBefore decl more → AreBefore decl (es ++ more)
before_more decl [] more h k = k
before_more decl (Registered d i from ∷ es) more h k = (h.0, before_more decl es more h.1 k)
before_more decl (Unregistered d i to ∷ es) more h k = h
before_more decl (Idle i ∷ es) more h k = h

either_low : (b : Bool) (d e decl : ℕ) → d < decl → e < decl → cond b d e < decl
either_low true d e decl low lower = low
either_low false d e decl low lower = lower

-- an id's declaration is below
decl_low : (decl id d : ℕ) (es : List PoolEntry) → AreBefore decl es → d < decl → decl_from id d es < decl
unfolding decl_from
decl_low decl id d [] h low = low
decl_low decl id d (Registered e i from ∷ es) h low = decl_low decl id (decl_after id d (Registered e i from)) es h.1 (either_low (i == id) e d decl h.0 low)
decl_low decl id d (Unregistered e i to ∷ es) h low = absurd h
decl_low decl id d (Idle i ∷ es) h low = absurd h

not_equal : (a b : ℕ) → a < b → (a == b) ≡ false
not_equal a b low = grind (arith, nat_tests)

pub and_false : (a b : Bool) → b ≡ false → (a && b) ≡ false
and_false true b e = e
and_false false b e = refl

not_live_here : (decl id : ℕ) (es : List PoolEntry) → AreBefore decl es → (is_live id es && (decl_of id es == decl)) ≡ false
unfolding phase_of
not_live_here zero id [] h = refl
not_live_here zero id (Registered d i from ∷ es) h = let low = h.0 in absurd (omega (arith, low))
not_live_here zero id (Unregistered d i to ∷ es) h = absurd h
not_live_here zero id (Idle i ∷ es) h = absurd h
not_live_here (suc decl) id es h = and_false (is_live id es) (decl_of id es == suc decl) (not_equal (decl_of id es) (suc decl) (decl_low (suc decl) id 0 es h (omega arith)))

-- a declaration that none of them registers is not live
pub not_live : (ids decl : ℕ) (es : List PoolEntry) → AreBefore decl es → is_live_decl ids decl es ≡ false
unfolding is_live_below
not_live zero decl es h = refl
not_live (suc id) decl es h = rw (not_live_here decl id es h) (not_live id decl es h)

-- how many entries so many ids have, from this one up
abbrev entries_of : ℕ → ℕ → List PoolEntry → ℕ
entries_of zero id es = 0
entries_of (suc more) id es = phase_of id es + entries_of more (suc id) es

-- whether an id is one of so many
abbrev among : ℕ → ℕ → ℕ → ℕ
among zero id i = 0
among (suc more) id i = cond (i == id) 1 0 + among more (suc id) i

among_above : (more id i : ℕ) → i < id → among more id i ≡ 0
among_above zero id i low = refl
among_above (suc more) id i low = let e : (i == id) ≡ false = not_equal i id low in let n : ◌≡◌ {A = ℕ} (cond (i == id) 1 0) 0 = ap {B = ℕ} (λ (b : Bool). cond b 1 0) e in omega (arith, n, among_above more (suc id) i (omega (arith, low)))

among_by : (b : Bool) (more id i : ℕ) → (i == id) ≡ b → among more (suc id) i ≤ 1 → cond (i == id) 1 0 + among more (suc id) i ≤ 1
among_by true more id i e rest = let same : i ≡ id = grind (arith, nat_tests) in let n : ◌≡◌ {A = ℕ} (cond (i == id) 1 0) 1 = ap {B = ℕ} (λ (b : Bool). cond b 1 0) e in omega (arith, n, among_above more (suc id) i (omega (arith, same)))
among_by false more id i e rest = let n : ◌≡◌ {A = ℕ} (cond (i == id) 1 0) 0 = ap {B = ℕ} (λ (b : Bool). cond b 1 0) e in omega (arith, n, rest)

among_once : (more id i : ℕ) → among more id i ≤ 1
among_once zero id i = omega arith
among_once (suc more) id i = among_by (i == id) more id i refl (among_once more (suc id) i)

entries_none : (more id : ℕ) → entries_of more id [] ≡ 0
unfolding phase_of
entries_none zero id = refl
entries_none (suc more) id = omega (arith, entries_none more (suc id))

entries_more : (more id : ℕ) (e : PoolEntry) (es : List PoolEntry) → entries_of more id (e ∷ es) ≡ among more id (id_of e) + entries_of more id es
unfolding phase_of
entries_more zero id e es = refl
entries_more (suc more) id e es = omega (arith, entries_more more (suc id) e es)

-- no more than there are
entries_few : (more id : ℕ) (es : List PoolEntry) → entries_of more id es ≤ length es
entries_few more id [] = omega (arith, entries_none more id)
entries_few more id (e ∷ es) = omega (arith, entries_more more id e es, among_once more id (id_of e), entries_few more id es)

rest_none : (b : Bool) (id : ℕ) (rest : Option ℕ) → (if b then Some id else rest) ≡ None → (b ≡ false) × (rest ≡ None)
rest_none true id rest none = absurd cc
rest_none false id rest none = (refl, none)

-- an id that can't be registered has an entry
has_one : (id : ℕ) (es : List PoolEntry) → is_free id es ≡ false → 0 < phase_of id es
has_one id es busy = by (phase_of id es) refl
  where
    by : (n : ℕ) → phase_of id es ≡ n → 0 < phase_of id es
    by zero none = let free : is_free id es ≡ true = ap (λ (n : ℕ). (n % 3 == 0) && nat_lt n 65533) none in absurd cc
    by (suc n) some = omega (arith, some)

-- where none can be registered, each has an entry
each_has : (more id : ℕ) (es : List PoolEntry) → lowest_free more id es ≡ None → more ≤ entries_of more id es
unfolding lowest_free
each_has zero id es none = omega arith
each_has (suc more) id es none = let here = rest_none (is_free id es) id (lowest_free more (suc id) es) none in omega (arith, has_one id es here.0, each_has more (suc id) es here.1)

-- where there are fewer entries than ids, one can be registered
pub some_free : (ids : ℕ) (es : List PoolEntry) → length es < ids → lowest_idle ids es ≡ None → ⊥
some_free ids es few none = let all = each_has ids 0 es none in let most = entries_few ids 0 es in omega (arith, all, most, few)

-- a seat that knows no more than it made, and made nothing more, knows what it knew
same_known : (more : List PoolEntry) (v w : View) → w.turns.known ≡ v.turns.known ++ more → length w.turns.known ≤ length v.turns.made → length v.turns.made ≤ length v.turns.known → w.turns.known ≡ v.turns.known
same_known more v w is most few =
    let long = ap (λ (l : List PoolEntry). length l) is in
    let none : more ≡ [] = nil_from_length more (omega (arith, long, most, few, length-append v.turns.known more)) in
    is ∙ ap (λ (l : List PoolEntry). v.turns.known ++ l) none ∙ append-nil v.turns.known

module _ (key : Setting) (decl gives entry : ℕ) (v w : View) (has : HasEntered decl v) (alone : length w.turns.known ≤ length w.turns.made) where
  -- no declaration is found live
  pub none_live : FindsLive key.shape v decl w.turns.known gives entry w → ⊥
  none_live f =
      let made = ap (λ (l : List Turn). length l) (f.gains.adds.turned ∙ append-nil v.turns.made) in
      let same = same_known f.gains.adds.pool.0 v w f.gains.adds.pool.1 (omega (arith, alone, made)) has.made in
      let live : is_live_decl key.shape.ids decl v.turns.known ≡ true = ap (λ (l : List PoolEntry). is_live_decl key.shape.ids decl l) (sym same) ∙ f.live in
      let not : is_live_decl key.shape.ids decl v.turns.known ≡ false = not_live key.shape.ids decl v.turns.known has.lower in
      absurd cc

  -- and an id is free
  pub one_free : length v.turns.known < key.shape.ids → FindsNoId key.shape v decl w.turns.known gives entry w → ⊥
  one_free room f =
      let gains = f.misses.gains in
      let made = ap (λ (l : List Turn). length l) (gains.adds.turned ∙ append-nil v.turns.made) in
      let same = same_known gains.adds.pool.0 v w gains.adds.pool.1 (omega (arith, alone, made)) has.made in
      some_free key.shape.ids v.turns.known room (ap (λ (l : List PoolEntry). lowest_idle key.shape.ids l) (sym same) ∙ f.none)

  -- the declaration was entered behind those before it
  pub next_entered : (id : ℕ) → Registers key v decl w.turns.known gives id entry w → HasEntered (decl + 1) w × (length w.turns.known ≡ length v.turns.known + 1)
  next_entered id f =
      let last : List PoolEntry = Registered decl id f.from ∷ [] in
      let made = ap (λ (l : List Turn). length l) f.gains.adds.turned in
      let one = length-append v.turns.made (record { number = entry; entry = Registered decl id f.from } ∷ []) in
      let long = ap (λ (l : List PoolEntry). length l) f.grown in
      let grown = length-append f.before last in
      let begins = ap (λ (l : List PoolEntry). length l) f.seen.1 in
      let more = length-append v.turns.known f.seen.0 in
      let few = has.made in
      let none : f.seen.0 ≡ [] = nil_from_length f.seen.0 (omega (arith, alone, made, one, long, grown, begins, more, few)) in
      let before : f.before ≡ v.turns.known = f.seen.1 ∙ ap (λ (l : List PoolEntry). v.turns.known ++ l) none ∙ append-nil v.turns.known in
      let known : w.turns.known ≡ v.turns.known ++ last = f.grown ∙ ap (λ (l : List PoolEntry). l ++ last) before in
      let count = ap (λ (l : List PoolEntry). length l) before in (
        record {
          lower = subst (AreBefore (decl + 1)) (sym known) (before_more (decl + 1) v.turns.known last (before_next decl v.turns.known has.lower) (omega arith, tt));
          made = omega (arith, made, one, long, grown, count, few);
        },
        omega (arith, long, grown, count),
      )

-- a declaration that is off enters nothing
pub entered_off : (decl : ℕ) (v : View) → HasEntered decl v → HasEntered (decl + 1) v
entered_off decl v has = record { lower = before_next decl v.turns.known has.lower; made = has.made }

-- how many of these caches are on
abbrev pub on_count : List CacheDecl → ℕ
on_count [] = 0
on_count (c ∷ cs) = cond c.on 1 0 + on_count cs

on_both : (cs ds : List CacheDecl) → on_count (cs ++ ds) ≡ on_count cs + on_count ds
on_both [] ds = omega arith
on_both (c ∷ cs) ds = omega (arith, on_both cs ds)

on_is : (cs : List CacheDecl) → on_count cs ≡ count_by (λ (c : CacheDecl). c.on) cs
on_is [] = refl
on_is (c ∷ cs) = omega (arith, on_is cs, sum_by-cons (λ (x : CacheDecl). cond x.on 1 0) c cs)

-- one cache more
pub next_at : (cs : List CacheDecl) (n : ℕ) (c : CacheDecl) → n < length cs → get_or cs n c ≡ c → take (n + 1) cs ≡ take n cs ++ c ∷ []
next_at cs n c low here = (take_at_read cs n c low).1 ∙ ap (λ (d : CacheDecl). take n cs ++ d ∷ []) here

-- one cache more that is on
pub on_next : (cs : List CacheDecl) (n : ℕ) (c : CacheDecl) → take (n + 1) cs ≡ take n cs ++ c ∷ [] → c.on ≡ true → on_count (take (n + 1) cs) ≡ on_count (take n cs) + 1
on_next cs n c next on = ap on_count next ∙ on_both (take n cs) (c ∷ []) ∙ ap (λ (b : Bool). on_count (take n cs) + (cond b 1 0 + 0)) on

-- and one that is off
pub off_next : (cs : List CacheDecl) (n : ℕ) (c : CacheDecl) → take (n + 1) cs ≡ take n cs ++ c ∷ [] → c.on ≡ false → on_count (take (n + 1) cs) ≡ on_count (take n cs)
off_next cs n c next off = ap on_count next ∙ on_both (take n cs) (c ∷ []) ∙ ap (λ (b : Bool). on_count (take n cs) + (cond b 1 0 + 0)) off ∙ omega arith

-- no more are on among the first ones than are on
pub on_few : (cs : List CacheDecl) (n ids : ℕ) → count_by (λ (c : CacheDecl). c.on) cs ≤ ids → on_count (take n cs) ≤ ids
on_few cs n ids few = let all = ap on_count (take-append-drop n cs) in omega (arith, few, on_is cs, all, on_both (take n cs) (drop n cs))
