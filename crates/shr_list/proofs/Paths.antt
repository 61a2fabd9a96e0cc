-- SPDX-License-Identifier: GPL-2.0-only
-- Paths of stops that name each other, over changes of a chain.
use Rattle.shr_list.proofs.Common.{◌≢◌, ℕ, List, [], ◌∷◌, ◌++◌, Option, None, sym, subst, ◌∙◌, append_assoc, append-nil, AllByRecursion, Chain, IsOff, IsApart, stop_after, prev_of, IsPath, KeepsLinks, Joins, each_weaker, IsJoined}

module _ {X : Type 0} (P : X → Type 0) where
  pub all_append : (xs ys : List X) → AllByRecursion P xs → AllByRecursion P ys → AllByRecursion P (xs ++ ys)
  all_append [] ys first second = second
  all_append (x ∷ xs) ys first second = (first.0, all_append xs ys first.1 second)

  pub all_left : (xs ys : List X) → AllByRecursion P (xs ++ ys) → AllByRecursion P xs
  all_left [] ys all = tt
  all_left (x ∷ xs) ys all = (all.0, all_left xs ys all.1)

  pub all_right : (xs ys : List X) → AllByRecursion P (xs ++ ys) → AllByRecursion P ys
  all_right [] ys all = all
  all_right (x ∷ xs) ys all = all_right xs ys all.1

module _ {X : Type 0} where
  -- each of the second list is off the first
  abbrev pub AreOff : List X → List X → Type 0
  AreOff xs ys = AllByRecursion (λ (x : X). IsOff x ys) xs

  pub apart_left : (xs ys : List X) → IsApart (xs ++ ys) → IsApart xs
  apart_left [] ys apart = tt
  apart_left (x ∷ xs) ys apart = (all_left (λ (t : X). t ≢ x) xs ys apart.0, apart_left xs ys apart.1)

  pub apart_right : (xs ys : List X) → IsApart (xs ++ ys) → IsApart ys
  apart_right [] ys apart = apart
  apart_right (x ∷ xs) ys apart = apart_right xs ys apart.1

  -- of two parts of a list without doubles, neither has an element of the other
  pub apart_across : (xs ys : List X) → IsApart (xs ++ ys) → AreOff xs ys
  apart_across [] ys apart = tt
  apart_across (x ∷ xs) ys apart = (all_right (λ (t : X). t ≢ x) xs ys apart.0, apart_across xs ys apart.1)

  -- two lists without doubles, neither with an element of the other, make one
  pub apart_append : (xs ys : List X) → IsApart xs → IsApart ys → AreOff xs ys → IsApart (xs ++ ys)
  apart_append [] ys first second across = second
  apart_append (x ∷ xs) ys first second across =
      (all_append (λ (t : X). t ≢ x) xs ys first.0 across.0, apart_append xs ys first.1 second across.1)

  -- one that is off a list may come after it
  pub off_each : (s : X) (xs : List X) → IsOff s xs → AreOff xs (s ∷ [])
  off_each s [] off = tt
  off_each s (x ∷ xs) off = ((λ e. off.0 (sym e), tt), off_each s xs off.1)

-- a path through a stop is a path to it and one from it
pub path_cut : (c : Chain) (a b : Option ℕ) (xs ys : List (Option ℕ)) → IsPath c a (xs ++ b ∷ ys) → IsPath c a (xs ++ b ∷ []) × IsPath c b ys
path_cut c a b [] ys path = ((path.0, tt), path.1)
path_cut c a b (x ∷ xs) ys path = let later = path_cut c x b xs ys path.1 in ((path.0, later.0), later.1)

-- two paths that meet in a stop make one
pub path_glue : (c : Chain) (a b : Option ℕ) (xs ys : List (Option ℕ)) → IsPath c a (xs ++ b ∷ []) → IsPath c b ys → IsPath c a (xs ++ b ∷ ys)
path_glue c a b [] ys first second = (first.0, second)
path_glue c a b (x ∷ xs) ys first second = (first.0, path_glue c x b xs ys first.1 second)

-- what holds of each stop before the last holds of the one that the last names
pub before_last : (c : Chain) (P : Option ℕ → Type 0) (a b : Option ℕ) (xs : List (Option ℕ)) → IsPath c a (xs ++ b ∷ []) → P a → AllByRecursion P xs → P (prev_of c b)
before_last c P a b [] path first all = rw path.0.1 first
before_last c P a b (x ∷ xs) path first all = before_last c P x b xs path.1 all.0 all.1

-- a path stays where no link on it changes
pub path_kept : (old new : Chain) (p n a b : Option ℕ) (xs : List (Option ℕ)) → KeepsLinks old new p n → a ≢ p → IsOff p xs → IsOff n xs → b ≢ n
    → IsPath old a (xs ++ b ∷ []) → IsPath new a (xs ++ b ∷ [])
path_kept old new p n a b [] kept start off_p off_n end path =
    ((kept.next a start ∙ path.0.0, kept.prev b end ∙ path.0.1), tt)
path_kept old new p n a b (x ∷ xs) kept start off_p off_n end path = (
  (kept.next a start ∙ path.0.0, kept.prev x off_n.0 ∙ path.0.1),
  path_kept old new p n x b xs kept off_p.0 off_p.1 off_n.1 end path.1,
)

-- the stop before the last is joined to another one
pub path_turned : (old new : Chain) (a b n : Option ℕ) (xs : List (Option ℕ)) → Joins old new (prev_of old b) n → IsApart (a ∷ xs) → IsOff n xs
    → IsPath old a (xs ++ b ∷ []) → IsPath new a (xs ++ n ∷ [])
path_turned old new a b n [] joins apart off path = (rw path.0.1 at joins.joined, tt)
path_turned old new a b n (x ∷ xs) joins apart off path =
    let other : prev_of old b ≢ a = before_last old (λ s. s ≢ a) x b xs path.1 apart.0.0 apart.0.1 in (
      (joins.links.next a (λ e. other (sym e)) ∙ path.0.0, joins.links.prev x off.0 ∙ path.0.1),
      path_turned old new x b n xs joins apart.1 off.1 path.1,
    )

-- A ring goes from the place between the last and the first through stops and back to it.
abbrev pub IsRing : Chain → List (Option ℕ) → Type 0
IsRing c xs = IsPath c None (xs ++ None ∷ [])

-- a ring stays if only the links of a stop off it change
pub ring_kept : (old new : Chain) (s : Option ℕ) (xs : List (Option ℕ)) → KeepsLinks old new s s → s ≢ None → IsOff s xs → IsRing old xs → IsRing new xs
ring_kept old new s xs kept some off ring = path_kept old new s s None None xs kept (λ e. some (sym e)) off off (λ e. some (sym e)) ring

-- two joins put a stop at the tail
pub ring_back : (old mid new : Chain) (s : Option ℕ) (xs : List (Option ℕ)) → Joins old mid (prev_of old None) s → Joins mid new s None → s ≢ None
    → IsOff s xs → IsApart (None ∷ xs) → IsRing old xs → IsRing new (xs ++ s ∷ [])
ring_back old mid new s xs first second some off apart ring =
    let turned = path_turned old mid None None s xs first apart off ring in
    let kept = path_kept mid new s None None s xs second.links (λ e. some (sym e)) off apart.0 some turned in
    rw append_assoc (path_glue new None s xs (None ∷ []) kept (second.joined, tt))

-- two joins put a stop before the head
pub ring_front : (old mid new : Chain) (s : Option ℕ) (xs : List (Option ℕ)) → Joins old mid s (stop_after old None) → Joins mid new None s → s ≢ None
    → IsOff s xs → IsApart (None ∷ xs) → IsRing old xs → IsRing new (s ∷ xs)
ring_front old mid new s [] first second some off apart ring =
    let to = subst (λ (n : Option ℕ). IsJoined mid s n) ring.0.0 first.joined in
    (second.joined, ((second.links.next s some ∙ to.0, second.links.prev None (λ e. some (sym e)) ∙ to.1), tt))
ring_front old mid new s (x ∷ xs) first second some off apart ring =
    let joins : Joins old mid s x = subst (λ (n : Option ℕ). Joins old mid s n) ring.0.0 first in
    let kept = path_kept old mid s x x None xs joins.links off.0 off.1 apart.1.0 (λ e. apart.0.0 (sym e)) ring.1 in
    let still = path_kept mid new None s x None xs second.links apart.0.0 apart.0.1 off.1 (λ e. some (sym e)) kept in (
      second.joined,
      ((second.links.next s some ∙ joins.joined.0, second.links.prev x off.0 ∙ joins.joined.1), still),
    )

-- a join of its neighbours takes a stop out
pub ring_without : (old new : Chain) (s : Option ℕ) (xs ys : List (Option ℕ)) → Joins old new (prev_of old s) (stop_after old s)
    → IsApart (None ∷ xs ++ s ∷ ys) → IsRing old (xs ++ s ∷ ys) → IsRing new (xs ++ ys)
ring_without old new s xs [] joins apart ring =
    let cut = path_cut old None s xs (None ∷ []) (rw append_assoc at ring) in
    let joined : Joins old new (prev_of old s) None = rw cut.1.0.0 at joins in
    rw append-nil (path_turned old new None s None xs joined (apart_left (None ∷ xs) (s ∷ []) apart) (all_left (λ (t : Option ℕ). t ≢ None) xs (s ∷ []) apart.0) cut.0)
ring_without old new s xs (y ∷ ys) joins apart ring =
    let cut = path_cut old None s xs (y ∷ ys ++ None ∷ []) (rw append_assoc at ring) in
    let joined : Joins old new (prev_of old s) y = rw cut.1.0.0 at joins in
    let across = apart_across (None ∷ xs) (s ∷ y ∷ ys) apart in
    let tail_apart = apart_right (None ∷ xs) (s ∷ y ∷ ys) apart in
    let off_y : IsOff y xs = off_swapped y xs (s ∷ []) ys across.1 in
    let turned = path_turned old new None s y xs joined (apart_left (None ∷ xs) (s ∷ y ∷ ys) apart) off_y cut.0 in
    let p = prev_of old s in
    let far : AllByRecursion (λ (t : Option ℕ). t ≢ p) (y ∷ ys) =
    before_last old (λ (q : Option ℕ). IsOff q (y ∷ ys)) None s xs cut.0 across.0.1 (each_weaker (λ (x : Option ℕ). IsOff x (s ∷ y ∷ ys)) (λ (x : Option ℕ). IsOff x (y ∷ ys)) (λ x off. off.1) xs across.1) in
    let kept = path_kept old new p y y None ys joined.links far.0 far.1 tail_apart.1.0 (λ e. across.0.1.0 (sym e)) cut.1.1 in
    rw append_assoc (path_glue new None y xs (ys ++ None ∷ []) turned kept)
  where
    off_swapped : (y : Option ℕ) (xs us vs : List (Option ℕ)) → AreOff xs (us ++ y ∷ vs) → IsOff y xs
    off_swapped y [] us vs across = tt
    off_swapped y (x ∷ xs) us vs across =
        let right = all_right (λ (t : Option ℕ). t ≢ x) us (y ∷ vs) across.0 in
        (λ e. right.0 (sym e), off_swapped y xs us vs across.1)
