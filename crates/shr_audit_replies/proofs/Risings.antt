-- SPDX-License-Identifier: GPL-2.0-only
-- One journal gone through with the last entry of each worker's at hand.
use Rattle.shr_audit_replies.proofs.Common.{◌≡◌, ℕ, suc, ◌+◌, [], ◌∷◌, ◌<◌, ◌≤◌, Bool, true, false, List, length, Option, Some, None, refl, sym, ap, subst, ◌∙◌, arith, slice_get, ◌==◌, nat_tests, slice_get_within, Serial, Entry, by_of, Last, AreCommandsRising, AreOfEarlierJournals, IsAfter, last_of_worker, no_last, noted_by, zero, lit<, ◌++◌, GoesOnBy, some_injective}
use Rattle.std.proofs.lemmas.List.{get_or-set_same, get_or-set_other, length-set}

-- a command is before the worker's last one in this journal, or is it
pub record IsNoted (journal : ℕ) (by : Serial) (last : Last) : Type 0 where
  pub here : last.journal ≡ journal
  pub before : by.command < last.next

-- this is the last entry of a worker's among those before a number
pub record HasLast (entries : List Entry) (i worker next : ℕ) : Type 0 where
  pub number : ℕ
  pub entry : Entry
  pub by : Serial
  pub before : number < i
  pub stands : slice_get entries number ≡ Some entry
  pub by_is : by_of entry ≡ Some by
  pub worker_is : by.worker ≡ worker
  pub next_is : by.command + 1 ≡ next

-- the commands of each worker rise along the entries before a number
abbrev pub AreRisingBefore : List Entry → ℕ → Type 0
AreRisingBefore entries i = (n m : ℕ) (d e : Entry) (by later : Serial) → n < m → m < i → slice_get entries n ≡ Some d → slice_get entries m ≡ Some e
    → by_of d ≡ Some by → by_of e ≡ Some later → by.worker ≡ later.worker → by.command < later.command

-- the entries of a journal before a number were gone through
pub record AreNoted (journal : ℕ) (entries : List Entry) (i : ℕ) (seen : List Last) : Type 0 where
  pub count : length seen ≡ 65536
  pub past : (worker : ℕ) → (last_of_worker seen worker).journal ≤ journal
  pub noted : (n : ℕ) (e : Entry) (by : Serial) → n < i → slice_get entries n ≡ Some e → by_of e ≡ Some by → IsNoted journal by (last_of_worker seen by.worker)
  pub real : (worker : ℕ) → (last_of_worker seen worker).journal ≡ journal → HasLast entries i worker (last_of_worker seen worker).next
  pub rising : AreRisingBefore entries i

-- none was
pub none_noted : (journal : ℕ) (entries : List Entry) (seen : List Last) → AreOfEarlierJournals journal seen → AreNoted journal entries 0 seen
none_noted journal entries seen old = record {
  count = old.count;
  past = λ worker. (let b = old.below worker in omega (arith, b));
  noted = λ n e by lt. absurd (omega (arith, lt));
  real = λ worker same. absurd (let b = old.below worker in omega (arith, b, same));
  rising = λ n m d e by later lt below. absurd (omega (arith, below));
}

-- no worker has had an entry
pub below_none : (seen : List Last) → seen ≡ [] → (worker : ℕ) → (last_of_worker seen worker).journal < 1
below_none seen none worker = subst (λ (xs : List Last). (last_of_worker xs worker).journal < 1) (sym none) (lit< tt)

pub below_push : (seen : List Last) → ((worker : ℕ) → (last_of_worker seen worker).journal < 1) → (worker : ℕ) → (last_of_worker (seen ++ no_last ∷ []) worker).journal < 1
below_push [] h zero = lit< tt
below_push [] h (suc worker) = h worker
below_push (x ∷ xs) h zero = h 0
below_push (x ∷ xs) h (suc worker) = below_push xs (λ w. h (suc w)) worker

pub below_more : (journal : ℕ) (seen : List Last) → AreOfEarlierJournals journal seen → AreOfEarlierJournals (journal + 1) seen
below_more journal seen h = record { count = h.count; below = λ worker. (let b = h.below worker in omega (arith, b)) }

-- one journal later
pub all_below : (journal : ℕ) (entries : List Entry) (i : ℕ) (seen : List Last) → AreNoted journal entries i seen → AreOfEarlierJournals (journal + 1) seen
all_below journal entries i seen h = record { count = h.count; below = λ worker. (let p = h.past worker in omega (arith, p)) }

-- an entry before the next number is one before, or the one here
here_or_before : {Q : Type 0} (entries : List Entry) (i n : ℕ) (e x : Entry) → slice_get entries i ≡ Some e → n < i + 1 → slice_get entries n ≡ Some x → (n < i → Q) → (n ≡ i → x ≡ e → Q) → Q
here_or_before {Q} entries i n e x at below stands before here = by_order (n == i) refl
  where
    by_order : (t : Bool) → (n == i) ≡ t → Q
    by_order true t =
        let same : n ≡ i = grind (arith, nat_tests) in
        here same (some_injective x e (sym stands ∙ (ap (λ (k : ℕ). slice_get entries k) same ∙ at)))
    by_order false t = before (let lower : n < i = grind (arith, nat_tests) in lower)

further : {entries : List Entry} {i worker next : ℕ} → HasLast entries i worker next → HasLast entries (i + 1) worker next
further h = record { number = h.number; entry = h.entry; by = h.by; before = (let b = h.before in omega (arith, b)); stands = h.stands; by_is = h.by_is; worker_is = h.worker_is; next_is = h.next_is }

-- an entry that is no tenant's
pub more_none : (journal : ℕ) (entries : List Entry) (i : ℕ) (seen : List Last) (e : Entry) → slice_get entries i ≡ Some e → by_of e ≡ None → AreNoted journal entries i seen → AreNoted journal entries (i + 1) seen
more_none journal entries i seen e at none h = record {
  count = h.count;
  past = h.past;
  noted = λ n x by below stands by_is. here_or_before entries i n e x at below stands (λ lt. h.noted n x by lt stands by_is) (λ same is. absurd (clash x by is by_is));
  real = λ worker same. further (h.real worker same);
  rising = λ n m d x by later lt below first second by_is later_is same. here_or_before entries i m e x at below second
      (λ lower. h.rising n m d x by later lt lower first second by_is later_is same) (λ there is. absurd (clash x later is later_is));
}
  where
    clash : (x : Entry) (by : Serial) → x ≡ e → by_of x ≡ Some by → ⊥
    clash x by is by_is = let both : ◌≡◌ {A = Option Serial} None (Some by) = sym none ∙ (ap by_of (sym is) ∙ by_is) in cc

-- a tenant's, whose command comes after the last one
pub more_one : (journal : ℕ) (entries : List Entry) (i : ℕ) (seen : List Last) (e : Entry) (own : Serial) → slice_get entries i ≡ Some e → by_of e ≡ Some own → own.worker < 65536 → IsAfter journal own (last_of_worker seen own.worker)
    → AreNoted journal entries i seen → AreNoted journal entries (i + 1) (noted_by journal own seen)
more_one journal entries i seen e own at own_is numbered after h = record {
  count = length-set seen own.worker last ∙ h.count;
  past = λ worker. at_worker worker (λ (x : Last). x.journal ≤ journal) (λ same. omega arith) (h.past worker);
  noted = λ n x by below stands by_is. here_or_before entries i n e x at below stands
      (λ lt. at_worker by.worker (IsNoted journal by) (λ same. record { here = refl; before = earlier n x by lt stands by_is same }) (h.noted n x by lt stands by_is))
      (λ there is. let by_own : by ≡ own = own_by x by is by_is in
      subst (λ (b : Serial). IsNoted journal b (last_of_worker new b.worker)) (sym by_own) (subst (IsNoted journal own) (sym (get_or-set_same seen own.worker last no_last (subst (λ (k : ℕ). own.worker < k) (sym h.count) numbered))) (record { here = refl; before = omega arith })));
  real = λ worker. at_worker worker (λ (x : Last). x.journal ≡ journal → HasLast entries (i + 1) worker x.next)
      (λ same there. record { number = i; entry = e; by = own; before = omega arith; stands = at; by_is = own_is; worker_is = sym same; next_is = refl })
      (λ there. further (h.real worker there));
  rising = λ n m d x by later lt below first second by_is later_is same. here_or_before entries i m e x at below second
      (λ lower. h.rising n m d x by later lt lower first second by_is later_is same)
      (λ there is. let later_own : later ≡ own = own_by x later is later_is in
      subst (λ (b : Serial). by.command < b.command) (sym later_own)
      (let before : n < i = subst (λ (k : ℕ). n < k) there lt in
      let worker : by.worker ≡ own.worker = same ∙ ap (λ (b : Serial). b.worker) later_own in
      below_own n d by before first by_is worker));
}
  where
    last : Last
    last = record { journal = journal; next = own.command + 1 }

    new : List Last
    new = noted_by journal own seen

    own_by : (x : Entry) (by : Serial) → x ≡ e → by_of x ≡ Some by → by ≡ own
    own_by x by is by_is = some_injective by own (sym by_is ∙ (ap by_of is ∙ own_is))

    at_worker : (worker : ℕ) (P : Last → Type 0) → (worker ≡ own.worker → P last) → P (last_of_worker seen worker) → P (last_of_worker new worker)
    at_worker worker P here other = by_order (worker == own.worker) refl
      where
        by_order : (t : Bool) → (worker == own.worker) ≡ t → P (last_of_worker new worker)
        by_order true t =
            let same : worker ≡ own.worker = grind (arith, nat_tests) in
            let within : own.worker < length seen = subst (λ (k : ℕ). own.worker < k) (sym h.count) numbered in
            subst (λ (w : ℕ). P (last_of_worker new w)) (sym same) (subst P (sym (get_or-set_same seen own.worker last no_last within)) (here same))
        by_order false t =
            let differ : worker ≡ own.worker → ⊥ = grind (arith, nat_tests) in
            subst P (sym (get_or-set_other seen own.worker worker last no_last differ)) other

    below_own : (n : ℕ) (d : Entry) (by : Serial) → n < i → slice_get entries n ≡ Some d → by_of d ≡ Some by → by.worker ≡ own.worker → by.command < own.command
    below_own n d by lt stands by_is same =
        let told : IsNoted journal by (last_of_worker seen own.worker) = subst (λ (w : ℕ). IsNoted journal by (last_of_worker seen w)) same (h.noted n d by lt stands by_is) in
        let up = after told.here in
        let under = told.before in
        omega (arith, up, under)

    earlier : (n : ℕ) (d : Entry) (by : Serial) → n < i → slice_get entries n ≡ Some d → by_of d ≡ Some by → by.worker ≡ own.worker → by.command < own.command + 1
    earlier n d by lt stands by_is same = let b = below_own n d by lt stands by_is same in omega (arith, b)

-- any entry with which it went on
pub more : (journal : ℕ) (entries : List Entry) (i : ℕ) (old new : List Last) (e : Entry) (went : Bool) → slice_get entries i ≡ Some e → (o : Option Serial) → by_of e ≡ o → GoesOnBy o journal old new went → went ≡ true
    → AreNoted journal entries i old → AreNoted journal entries (i + 1) new
more journal entries i old new e went at None is g t h = subst (AreNoted journal entries (i + 1)) (sym g.1) (more_none journal entries i old e at is h)
more journal entries i old new e went at (Some own) is g t h = subst (AreNoted journal entries (i + 1)) (sym (g.noted t)) (more_one journal entries i old e own at is g.numbered (g.after.0 t) h)

-- and one with which it didn't
pub fails : (journal : ℕ) (entries : List Entry) (i : ℕ) (old new : List Last) (e : Entry) (went : Bool) → slice_get entries i ≡ Some e → (o : Option Serial) → by_of e ≡ o → GoesOnBy o journal old new went → went ≡ false
    → AreNoted journal entries i old → AreCommandsRising entries → ⊥
fails journal entries i old new e went at None is g f h rising = cc (g.0, f)
fails journal entries i old new e went at (Some own) is g f h rising = absurd (other (g.after.1 after))
  where
    other : went ≡ true → ⊥
    other t = cc

    after : IsAfter journal own (last_of_worker old own.worker)
    after here =
        let l = h.real own.worker here in
        let up = rising l.number i l.entry e l.by own l.before l.stands at l.by_is is l.worker_is in
        let next = l.next_is in
        omega (arith, up, next)

-- all were gone through
pub whole : (journal : ℕ) (entries : List Entry) (i : ℕ) (seen : List Last) → length entries ≤ i → AreNoted journal entries i seen → AreCommandsRising entries
whole journal entries i seen over h n m d e by later lt first second =
    h.rising n m d e by later lt (let within = slice_get_within entries m e second in omega (arith, within, over)) first second
