-- SPDX-License-Identifier: GPL-2.0-only
-- A seat uses an id since a lookup of its own that found the id live, and what ends the use comes behind it.
use Rattle.shr_core.proofs.Common.{◌≡◌, ℕ, zero, suc, ◌+◌, ◌<◌, ◌≤◌, Bool, true, false, cond, List, [], ◌∷◌, ◌++◌, sym, refl, ap, subst, ◌∙◌, arith, eqb, eq-eqb, ne_eqb, append-nil, dite, ℕ_discrete, get_elem?, Deed, state_after, AreSo, times, without, times-push_same, times-without_same, Event, Tried, counted, made, looked, loaded, turned, put_back, raised, cleared, mapped, Moment, at_start, moment_next, Holders, no_holders, finder, users_after, users_next, last_users, Measure, value, part}
use Rattle.std.specs.Prelude.{Some, None, Option as Maybe, take}
use mathlib.Core.Option.{Option as Optional, none, some, some-injective, some-ne-none}
use Rattle.shr_core.proofs.Ranking.{grows}
use Rattle.shr_core.proofs.Uses.{users_else}

-- ---- the state before an event of a line
module _ {S E : Type 0} (next : S → E → S) where
  -- the state before the event with this number
  abbrev pub before : S → List E → ℕ → S
  before s l n = state_after next s (take n l)

  pub before_next : (s : S) (l : List E) (n : ℕ) (e : E) → get_elem? l n ≡ some e → before s l (suc n) ≡ next (before s l n) e
  before_next s [] n e at = absurd (some-ne-none e (sym at))
  before_next s (x ∷ xs) zero e at = ap (next s) (some-injective x e at)
  before_next s (x ∷ xs) (suc n) e at = before_next (next s x) xs n e at

  -- each event is so in it
  pub so_before : (IsSo : S → E → Type 0) (s : S) (l : List E) (n : ℕ) (e : E) → AreSo next IsSo s l → get_elem? l n ≡ some e → IsSo (before s l n) e
  so_before IsSo s [] n e all at = absurd (some-ne-none e (sym at))
  so_before IsSo s (x ∷ xs) zero e all at = subst (IsSo s) (some-injective x e at) all.0
  so_before IsSo s (x ∷ xs) (suc n) e all at = so_before IsSo (next s x) xs n e all.1 at

-- the moment before an event
abbrev pub moment_before : ℕ → List (Deed Event) → ℕ → Moment
moment_before first line n = before moment_next (at_start first) line n

-- what only grows has grown from one event to a later one
pub grown : (first : ℕ) (line : List (Deed Event)) (m : Measure) (i j : ℕ) → i ≤ j → value m (moment_before first line i) ≤ value m (moment_before first line j)
grown first line m i j le = from (at_start first) line i j le where
  rises : (t : Moment) (l : List (Deed Event)) (k : ℕ) → value m t ≤ value m (before moment_next t l k)
  rises t l zero = omega arith
  rises t [] (suc k) = omega arith
  rises t (d ∷ l) (suc k) = omega (arith, grows m t d.act, rises (moment_next t d) l k)

  from : (t : Moment) (l : List (Deed Event)) (i j : ℕ) → i ≤ j → value m (before moment_next t l i) ≤ value m (before moment_next t l j)
  from t l zero j le = rises t l j
  from t l (suc i) zero le = absurd (omega (arith, le))
  from t [] (suc i) (suc j) le = omega arith
  from t (d ∷ l) (suc i) (suc j) le = from (moment_next t d) l i j (omega (arith, le))

-- ---- who uses an id
-- the seats that use each id before an event
abbrev pub users_before : List (Deed Event) → ℕ → Holders
users_before line n = before users_next no_holders line n

-- the lookup by which a seat uses an id, with nothing since that ended it
pub record IsUsing (line : List (Deed Event)) (j i b : ℕ) : Type 0 where
  pub at : ℕ
  pub try : Tried
  pub behind : at < b
  pub stands : get_elem? line at ≡ some (record { seat = j; act = looked try })
  pub own : try.id ≡ i
  pub decl : ℕ
  pub held : try.held ≡ Some decl
  pub since : (c : ℕ) → at < c → c ≤ b → 0 < times j (users_before line c i)

-- a seat comes to use an id by its own lookup, which finds the id live
pub record IsFinding (d : Deed Event) (j i : ℕ) : Type 0 where
  pub try : Tried
  pub is : d ≡ record { seat = j; act = looked try }
  pub own : try.id ≡ i
  pub decl : ℕ
  pub held : try.held ≡ Some decl

comes : (u : Holders) (j i : ℕ) (d : Deed Event) → times j (u i) ≡ 0 → 0 < times j (users_next u d i) → IsFinding d j i
comes u j i d free has = dite (ℕ_discrete j d.seat) (λ same. by d.seat d.act refl (sym same)) (λ n. absurd (omega (arith, free, has, users_else u d.seat j i d.act n))) where
  by : (seat : ℕ) (e : Event) → d ≡ record { seat = seat; act = e } → seat ≡ j → IsFinding d j i
  by seat (looked x) is same = dite (ℕ_discrete i x.id)
      (λ own. found x.held refl)
      (λ n. absurd (omega (arith, free, has, ap (λ (y : Deed Event). times j (users_next u y i)) is, ap (λ b. times j (cond b (u i ++ finder x.held seat) (u i))) (ne_eqb i x.id n))))
    where
      now : times j (users_next u d i) ≡ times j (cond (eqb i x.id) (u i ++ finder x.held seat) (u i))
      now = ap (λ (y : Deed Event). times j (users_next u y i)) is

      found : (held : Maybe ℕ) → x.held ≡ held → IsFinding d j i
      found None empty = absurd (omega (arith, free, has, now, none_more (eqb i x.id), ap (λ (h : Maybe ℕ). times j (cond (eqb i x.id) (u i ++ finder h seat) (u i))) empty)) where
        none_more : (b : Bool) → times j (cond b (u i ++ []) (u i)) ≡ times j (u i)
        none_more b = elim b as (λ c. times j (cond c (u i ++ []) (u i)) ≡ times j (u i)) [ true ↦ ap (times j) (append-nil (u i)) | false ↦ refl ]
      found (Some decl) held = dite (ℕ_discrete i x.id)
          (λ own. record { try = x; is = is ∙ ap (λ (n : ℕ). record { seat = n; act = looked x }) same; own = sym own; decl = decl; held = held })
          (λ n. absurd (omega (arith, free, has, now, ap (λ b. times j (cond b (u i ++ finder x.held seat) (u i))) (ne_eqb i x.id n))))
  by seat (put_back k) is same = absurd (omega (arith, free, has, ap (λ (y : Deed Event). times j (users_next u y i)) is, fewer (eqb i k), ap (λ (n : ℕ). times j (without n (u i))) same, times-without_same j (u i))) where
    fewer : (b : Bool) → times j (cond b (without seat (u i)) (u i)) ≤ times j (without seat (u i)) + times j (u i)
    fewer b = elim b as (λ c. times j (cond c (without seat (u i)) (u i)) ≤ times j (without seat (u i)) + times j (u i)) [ true ↦ omega arith | false ↦ omega arith ]
  by seat (counted x) is same = absurd (omega (arith, free, has, ap (λ (y : Deed Event). times j (users_next u y i)) is))
  by seat (made x) is same = absurd (omega (arith, free, has, ap (λ (y : Deed Event). times j (users_next u y i)) is))
  by seat (loaded x) is same = absurd (omega (arith, free, has, ap (λ (y : Deed Event). times j (users_next u y i)) is))
  by seat (turned x) is same = absurd (omega (arith, free, has, ap (λ (y : Deed Event). times j (users_next u y i)) is))
  by seat (raised x) is same = absurd (omega (arith, free, has, ap (λ (y : Deed Event). times j (users_next u y i)) is))
  by seat (cleared x) is same = absurd (omega (arith, free, has, ap (λ (y : Deed Event). times j (users_next u y i)) is))
  by seat (mapped x) is same = absurd (omega (arith, free, has, ap (λ (y : Deed Event). times j (users_next u y i)) is))

-- past the end of a line nothing changes
past : (line : List (Deed Event)) (u : Holders) (n : ℕ) → get_elem? line n ≡ none → before users_next u line (suc n) ≡ before users_next u line n
past [] u n at = nothing n where
  nothing : (n : ℕ) → before users_next u [] (suc n) ≡ before users_next u [] n
  nothing zero = refl
  nothing (suc n) = refl
past (d ∷ line) u zero at = absurd (some-ne-none d at)
past (d ∷ line) u (suc n) at = past line (users_next u d) n at

-- a seat that uses an id somewhere in a line does so since a lookup
pub since_lookup : (line : List (Deed Event)) (j i b : ℕ) → 0 < times j (users_before line b i) → IsUsing line j i b
since_lookup line j i zero has = absurd (omega (arith, has))
since_lookup line j i (suc b) has = dite (ℕ_discrete (times j (users_before line b i)) 0)
    (λ unused. new (get_elem? line b) refl unused)
    (λ n. let t = since_lookup line j i b (omega (arith, n)) in record {
      at = t.at;
      try = t.try;
      behind = omega (arith, t.behind);
      stands = t.stands;
      own = t.own;
      decl = t.decl;
      held = t.held;
      since = λ c after le. dite (ℕ_discrete c (suc b)) (λ e. subst (λ (k : ℕ). 0 < times j (users_before line k i)) (sym e) has) (λ m. t.since c after (omega (arith, le, m)));
    })
  where
    new : (o : Optional (Deed Event)) → get_elem? line b ≡ o → times j (users_before line b i) ≡ 0 → IsUsing line j i (suc b)
    new none at zero-used = absurd (omega (arith, has, zero-used, ap (λ (u : Holders). times j (u i)) (past line no_holders b at)))
    new (some d) at zero-used =
        let f = comes (users_before line b) j i d zero-used (subst (λ (u : Holders). 0 < times j (u i)) (before_next users_next no_holders line b d at) has) in record {
          at = b;
          try = f.try;
          behind = omega arith;
          stands = at ∙ ap some f.is;
          own = f.own;
          decl = f.decl;
          held = f.held;
          since = λ c after le. subst (λ (k : ℕ). 0 < times j (users_before line k i)) (let e : suc b ≡ c = omega (arith, after, le) in e) has;
        }

-- ---- what a seat uses it uses by its own deeds
same_uses : (u w : Holders) (j i : ℕ) (e : Event) → times j (u i) ≡ times j (w i) → times j (users_after u j e i) ≡ times j (users_after w j e i)
same_uses u w j i (counted x) same = same
same_uses u w j i (made x) same = same
same_uses u w j i (looked x) same = by (eqb i x.id) x.held where
  by : (b : Bool) (held : Maybe ℕ) → times j (cond b (u i ++ finder held j) (u i)) ≡ times j (cond b (w i ++ finder held j) (w i))
  by b None = elim b as (λ c. times j (cond c (u i ++ []) (u i)) ≡ times j (cond c (w i ++ []) (w i))) [ true ↦ ap (times j) (append-nil (u i)) ∙ (same ∙ sym (ap (times j) (append-nil (w i)))) | false ↦ same ]
  by b (Some decl) = elim b as (λ c. times j (cond c (u i ++ j ∷ []) (u i)) ≡ times j (cond c (w i ++ j ∷ []) (w i))) [ true ↦ omega (arith, same, times-push_same j (u i), times-push_same j (w i)) | false ↦ same ]
same_uses u w j i (loaded x) same = same
same_uses u w j i (turned x) same = same
same_uses u w j i (put_back k) same = by (eqb i k) where
  by : (b : Bool) → times j (cond b (without j (u i)) (u i)) ≡ times j (cond b (without j (w i)) (w i))
  by b = elim b as (λ c. times j (cond c (without j (u i)) (u i)) ≡ times j (cond c (without j (w i)) (w i))) [ true ↦ omega (arith, times-without_same j (u i), times-without_same j (w i)) | false ↦ same ]
same_uses u w j i (raised x) same = same
same_uses u w j i (cleared x) same = same
same_uses u w j i (mapped x) same = same

-- the ids that a seat uses after a line are those after its own part of it
pub by_part : (j i : ℕ) (line : List (Deed Event)) → times j (last_users line i) ≡ times j (last_users (part j line) i)
by_part j i line = from no_holders no_holders line refl where
  from : (u w : Holders) (l : List (Deed Event)) → times j (u i) ≡ times j (w i) → times j (state_after users_next u l i) ≡ times j (state_after users_next w (part j l) i)
  from u w [] same = same
  from u w (d ∷ l) same = dite (ℕ_discrete d.seat j)
      (λ e. from (users_next u d) (users_next w d) l (mine e) ∙ ap (λ (b : Bool). times j (state_after users_next w (cond b (d ∷ part j l) (part j l)) i)) (sym (eq-eqb d.seat j e)))
      (λ n. from (users_next u d) w l (users_else u d.seat j i d.act (λ e. n (sym e)) ∙ same) ∙ ap (λ (b : Bool). times j (state_after users_next w (cond b (d ∷ part j l) (part j l)) i)) (sym (ne_eqb d.seat j n)))
    where
      mine : d.seat ≡ j → times j (users_next u d i) ≡ times j (users_next w d i)
      mine e = subst (λ (n : ℕ). times j (users_after u n d.act i) ≡ times j (users_after w n d.act i)) (sym e) (same_uses u w j i d.act same)
