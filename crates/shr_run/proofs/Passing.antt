-- SPDX-License-Identifier: GPL-2.0-only
-- The passes of a sweep are handed out and joined, one helper after another.
use Rattle.shr_run.proofs.Common.{◌≡◌, ℕ, suc, ◌+◌, ◌<◌, List, [], ◌∷◌, ◌++◌, length, length-append, map, sym, refl, ap, subst, ◌∙◌, arith, append_assoc, All, IsTrue, flat_map, slice_get, Option, Some, None, true, append-nil, All-cons, All-nil, Standing, at_first, SweepItem, JobQueue, PassView, queue_line, WorkerResult, Shared, Helped, Helping, popped_of, HasPass, AreOnce, handed_out, map-append, All-append, IsWhole}
use Rattle.std.specs.List.{range_with_len}
use Rattle.shr_pool.specs.Passes as passes
use Rattle.shr_pool.specs.Rule.{joined_pass_view, split_pass_view, new_pass_view}
use Rattle.shr_pool.specs.Worked.{AreEachOnce}

pub all_first : {A : Type 0} (P : A → Type 0) (x : A) (xs : List A) → All P (x ∷ xs) → P x
all_first P x xs all = all 0 x (omega arith)

-- what a list is in parts, with one element moved from the second part to the first
pub moved_one : {A B : Type 0} (f : A → B) (done : List A) (more : List A) (x : A) (left rest all : List B) → more ≡ done ++ x ∷ [] → left ≡ f x ∷ rest → map f done ++ left ≡ all → map f more ++ rest ≡ all
moved_one f done more x left rest all is next before =
    ap (λ l. map f l ++ rest) is ∙ (ap (λ l. l ++ rest) (map-append f done (x ∷ [])) ∙ (append_assoc (map f done) (f x ∷ []) rest ∙ (ap (λ l. map f done ++ l) (sym next) ∙ before)))

-- the same of what is taken from one list and put on another
pub carried_one : {A B : Type 0} (f : A → B) (done : List B) (x : A) (more : List B) (left rest : List A) (all : List B) → more ≡ done ++ f x ∷ [] → left ≡ x ∷ rest → done ++ map f left ≡ all → more ++ map f rest ≡ all
carried_one f done x more left rest all is next before =
    ap (λ l. l ++ map f rest) is ∙ (append_assoc done (f x ∷ []) (map f rest) ∙ (ap (λ l. done ++ map f l) (sym next) ∙ before))

-- the first pass while passes are joined into it
pub record IsJoining (q : JobQueue) (start v : PassView) (left all : List Helped) : Type 0 where
  pub first : v.standing.first ≡ true
  pub pushed : v.pushed ≡ start.pushed
  pub splits : v.standing.splits ≡ length all
  pub joins : v.standing.joins + length left ≡ length all
  pub popped : v.popped ++ flat_map popped_of left ≡ flat_map popped_of all
  pub once : (nodes groups : ℕ) → 0 < v.standing.joins → IsWhole v.standing → v.pushed ≡ queue_line nodes groups → AreEachOnce nodes groups v

pub joining_none : (q : JobQueue) (v : PassView) (all : List Helped) → v ≡ handed_out v.pushed (length all) → IsJoining q v v all all
joining_none q v all is = record {
  first = ap (λ (u : PassView). u.standing.first) is;
  pushed = refl;
  splits = ap (λ (u : PassView). u.standing.splits) is;
  joins = let none = ap (λ (u : PassView). u.standing.joins) is in omega (arith, none);
  popped = ap (λ (u : PassView). u.popped ++ flat_map popped_of all) is;
  once = λ nodes groups some. let none = ap (λ (u : PassView). u.standing.joins) is in absurd (omega (arith, none, some));
}

pub joining_more : (q : JobQueue) (start v w : PassView) (h : Helped) (left rest all : List Helped) → left ≡ h ∷ rest → w ≡ joined_pass_view v (passes.pass_view h.pass)
    → ((nodes groups : ℕ) → IsWhole w.standing → w.pushed ≡ queue_line nodes groups → AreEachOnce nodes groups w) → IsJoining q start v left all → IsJoining q start w rest all
joining_more q start v w h left rest all next is once j = record {
  first = ap (λ (u : PassView). u.standing.first) is ∙ j.first;
  pushed = ap (λ (u : PassView). u.pushed) is ∙ j.pushed;
  splits = ap (λ (u : PassView). u.standing.splits) is ∙ j.splits;
  joins = let one = ap (λ (u : PassView). u.standing.joins) is in let many = j.joins in let long = ap (λ (l : List Helped). length l) next in omega (arith, one, many, long);
  popped = ap (λ (u : PassView). u.popped ++ flat_map popped_of rest) is ∙ (append_assoc v.popped (popped_of h) (flat_map popped_of rest) ∙ (ap (λ (l : List Helped). v.popped ++ flat_map popped_of l) (sym next) ∙ j.popped));
  once = λ nodes groups some whole line. once nodes groups whole line;
}

pub joining_all : (q : JobQueue) (start v : PassView) (left all : List Helped) → length left ≡ 0 → IsJoining q start v left all → (nodes groups : ℕ) → 0 < length all → start.pushed ≡ queue_line nodes groups → AreOnce nodes groups (flat_map popped_of all)
joining_all q start v [] all none j nodes groups some line = record {
  view = v;
  same = sym (append-nil v.popped) ∙ j.popped;
  once = let many = j.joins in let splits = j.splits in j.once nodes groups (omega (arith, many, some)) (omega (arith, many, splits)) (j.pushed ∙ line);
}
joining_all q start v (h ∷ left) all none j nodes groups some line = absurd (omega (arith, none))

-- ---- by the number of the helper
abbrev pub popped_at : Option Helped → List SweepItem
popped_at None = []
popped_at (Some h) = popped_of h

numbered : (f : ℕ → List SweepItem) (hs : List Helped) (a : ℕ) → ((i : ℕ) → f (a + i) ≡ popped_at (slice_get hs i)) → flat_map f (range_with_len a (length hs)) ≡ flat_map popped_of hs
numbered f [] a each = refl
numbered f (h ∷ hs) a each =
    let first : f a ≡ popped_of h = ap f (let z : a ≡ a + 0 = omega arith in z) ∙ each 0 in
    let more = numbered f hs (a + 1) (λ i. ap f (let z : (a + 1) + i ≡ a + suc i = omega arith in z) ∙ each (suc i)) in
    ap (λ l. l ++ flat_map f (range_with_len (a + 1) (length hs))) first ∙ ap (λ l. popped_of h ++ l) more

pub popped_by_number : (hs : List Helped) → flat_map (λ i. popped_at (slice_get hs i)) (range_with_len 0 (length hs)) ≡ flat_map popped_of hs
popped_by_number hs = numbered (λ i. popped_at (slice_get hs i)) hs 0 (λ i. ap (λ n. popped_at (slice_get hs n)) (let z : 0 + i ≡ i = omega arith in z))

-- ---- passes handed out
abbrev viewed : List SweepItem → List SweepItem → Standing → PassView
viewed pushed popped standing = record { pushed = pushed; popped = popped; standing = standing }

pub none_handed_out : (v : PassView) (hs : List Helping) → v.popped ≡ [] → v.standing ≡ at_first → length hs ≡ 0 → v ≡ handed_out v.pushed (length hs)
none_handed_out v hs none standing empty =
    ap (λ (l : List SweepItem). viewed v.pushed l v.standing) none ∙ (ap (λ (z : Standing). viewed v.pushed [] z) standing ∙ ap (handed_out v.pushed) (sym empty))

pub more_handed_out : (v w : PassView) (pushed : List SweepItem) (hs more : List Helping) (h : Helping) → w ≡ split_pass_view v → v ≡ handed_out pushed (length hs) → more ≡ hs ++ h ∷ [] → w ≡ handed_out pushed (length more)
more_handed_out v w pushed hs more h new old is = new ∙ (ap split_pass_view old ∙ ap (handed_out pushed) (let one = ap (λ (l : List Helping). length l) is ∙ length-append hs (h ∷ []) in let next : length hs + 1 ≡ length more = omega (arith, one) in next))

pub passed_more : (x : Shared) (q r : JobQueue) (v : PassView) (pushed : List SweepItem) (hs more : List Helping) (h : Helping) → r ≡ q → v ≡ handed_out pushed (length hs) → passes.IsJobPass r h.pass → passes.pass_view h.pass ≡ new_pass_view v → more ≡ hs ++ h ∷ [] → h.shared ≡ x → All (HasPass x q pushed) hs → All (HasPass x r pushed) more
passed_more x q r v pushed hs more h same old pass view is at all =
    subst (All (HasPass x r pushed)) (sym is) (All-append (HasPass x r pushed) hs (h ∷ []) (subst (λ (u : JobQueue). All (HasPass x u pushed) hs) (sym same) all)
    (All-cons (HasPass x r pushed) h [] (record { shared = at; pass = pass; view = view ∙ ap new_pass_view old }) (All-nil (HasPass x r pushed))))

pub whole_more : (left rest all : List WorkerResult) (w : WorkerResult) → left ≡ w ∷ rest → IsTrue w.whole
    → (All (λ (u : WorkerResult). IsTrue u.whole) left → All (λ (u : WorkerResult). IsTrue u.whole) all) → All (λ (u : WorkerResult). IsTrue u.whole) rest → All (λ (u : WorkerResult). IsTrue u.whole) all
whole_more left rest all w next done before more = before (subst (All (λ (u : WorkerResult). IsTrue u.whole)) (sym next) (All-cons (λ (u : WorkerResult). IsTrue u.whole) w rest done more))
