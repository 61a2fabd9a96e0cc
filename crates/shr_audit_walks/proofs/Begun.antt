-- SPDX-License-Identifier: GPL-2.0-only
-- What was made begins with what was due, piece by piece.
use Rattle.shr_audit_walks.proofs.RoundsCommon.{◌≡◌, ℕ, zero, suc, ◌+◌, ◌-◌, ◌<◌, ◌≤◌, Bool, true, false, List, [], ◌∷◌, ◌++◌, length, get_or, take, drop, map, flat_map, refl, sym, ap, subst, ◌∙◌, arith, ◌==◌, Decides, range_with_len, eqb-true, eq-eqb, append-nil, append_assoc, length-drop, take_more, flat_map-append, Job, BeginsAsDue, IsBehind, IsMadeAsDue, IsNotBegun, take_all, take-append-drop}
use Rattle.std.proofs.lemmas.List.FromFn.{length-range_with_len, get_or-range_with_len}

pub begins_empty : (w : Bool) (due : List Job) → w ≡ false → BeginsAsDue w due []
begins_empty w [] e = tt
begins_empty w (j ∷ js) e = e

pub begins_then : (w : Bool) (xs ys all : List Job) → BeginsAsDue w xs all → BeginsAsDue w ys (drop (length xs) all) → BeginsAsDue w (xs ++ ys) all
begins_then w [] ys all h g = g
begins_then w (x ∷ xs) ys [] h g = h
begins_then w (x ∷ xs) ys (m ∷ ms) h g = (h.0, begins_then w xs ys ms h.1 g)

pub begins_front : (w : Bool) (xs ys all : List Job) → BeginsAsDue w (xs ++ ys) all → BeginsAsDue w xs all
begins_front w [] ys all h = tt
begins_front w (x ∷ xs) ys [] h = h
begins_front w (x ∷ xs) ys (m ∷ ms) h = (h.0, begins_front w xs ys ms h.1)

pub begins_back : (w : Bool) (xs ys all : List Job) → BeginsAsDue w (xs ++ ys) all → BeginsAsDue w ys (drop (length xs) all)
begins_back w [] ys all h = h
begins_back w (x ∷ xs) ys [] h = begins_empty w ys h
begins_back w (x ∷ xs) ys (m ∷ ms) h = begins_back w xs ys ms h.1

none_left : (n : ℕ) → ◌≡◌ {A = List Job} (drop n []) []
none_left zero = refl
none_left (suc n) = refl

drop_then : (xs ys all : List Job) → drop (length (xs ++ ys)) all ≡ drop (length ys) (drop (length xs) all)
drop_then [] ys all = refl
drop_then (x ∷ xs) ys [] = sym (none_left (length ys))
drop_then (x ∷ xs) ys (m ∷ ms) = drop_then xs ys ms

-- one piece behind others
pub behind_then : (w : Bool) (xs ys all rest more : List Job) → IsBehind w xs all rest → IsBehind w ys rest more → IsBehind w (xs ++ ys) all more
behind_then w xs ys all rest more h g = record {
  begins = begins_then w xs ys all h.begins (subst (BeginsAsDue w ys) h.behind g.begins);
  behind = g.behind ∙ ap (drop (length ys)) h.behind ∙ sym (drop_then xs ys all);
}

-- where one isn't there, the whole isn't
pub not_behind : (w : Bool) (xs ys zs all rest : List Job) → IsBehind w xs all rest → IsNotBegun w ys rest → IsNotBegun w (xs ++ (ys ++ zs)) all
not_behind w xs ys zs all rest h none g = none (subst (BeginsAsDue w ys) (sym h.behind) (begins_front w ys zs (drop (length xs) all) (begins_back w xs (ys ++ zs) all g)))

pub behind_none : (w : Bool) (all : List Job) → IsBehind w [] all all
behind_none w all = record { begins = tt; behind = refl }

-- ---- pieces in a row

module _ {X : Type 0} (h : X → List Job) (xs : List X) (k : ℕ) (d : X) (lt : k < length xs) where
  one_more : flat_map h (take (k + 1) xs) ≡ flat_map h (take k xs) ++ h (get_or xs k d)
  one_more = ap (flat_map h) (take_more xs k d lt) ∙ flat_map-append h (take k xs) (get_or xs k d ∷ []) ∙ ap (λ (ys : List Job). flat_map h (take k xs) ++ ys) (append-nil (h (get_or xs k d)))

  whole : flat_map h xs ≡ flat_map h (take k xs) ++ (h (get_or xs k d) ++ flat_map h (drop (k + 1) xs))
  whole = ap (flat_map h) (sym (take-append-drop (k + 1) xs)) ∙ flat_map-append h (take (k + 1) xs) (drop (k + 1) xs)
      ∙ ap (λ (ys : List Job). ys ++ flat_map h (drop (k + 1) xs)) one_more ∙ append_assoc (flat_map h (take k xs)) (h (get_or xs k d)) (flat_map h (drop (k + 1) xs))

  pub row_more : (w : Bool) (all rest more : List Job) → IsBehind w (flat_map h (take k xs)) all rest → IsBehind w (h (get_or xs k d)) rest more → IsBehind w (flat_map h (take (k + 1) xs)) all more
  row_more w all rest more before here = subst (λ (due : List Job). IsBehind w due all more) (sym one_more) (behind_then w (flat_map h (take k xs)) (h (get_or xs k d)) all rest more before here)

  pub row_fails : (w : Bool) (all rest : List Job) → IsBehind w (flat_map h (take k xs)) all rest → IsNotBegun w (h (get_or xs k d)) rest → IsNotBegun w (flat_map h xs) all
  row_fails w all rest before none = subst (λ (due : List Job). IsNotBegun w due all) (sym whole) (not_behind w (flat_map h (take k xs)) (h (get_or xs k d)) (flat_map h (drop (k + 1) xs)) all rest before none)

pub row_all : {X : Type 0} (h : X → List Job) (xs : List X) (k : ℕ) → length xs ≤ k → (w : Bool) (all rest : List Job) → IsBehind w (flat_map h (take k xs)) all rest → IsBehind w (flat_map h xs) all rest
row_all {X} h xs k over w all rest before = subst (λ (ys : List X). IsBehind w (flat_map h ys) all rest) (take_all k xs over) before

-- single walks as rows of one
pub singles : {X : Type 0} (f : X → Job) (xs : List X) → flat_map (λ (x : X). f x ∷ []) xs ≡ map f xs
singles f [] = refl
singles f (x ∷ xs) = ap (λ (ys : List Job). f x ∷ ys) (singles f xs)

-- ---- walks over groups in a row

module _ (f : ℕ → Job) (groups : List ℕ) (k : ℕ) (w : Bool) (all rest : List Job) where
  abbrev alone : ℕ → List Job
  alone g = f g ∷ []

  pub groups_more : (more : List Job) → k < length groups → IsBehind w (flat_map alone (take k groups)) all rest → IsBehind w (f (get_or groups k 0) ∷ []) rest more → IsBehind w (flat_map alone (take (k + 1) groups)) all more
  groups_more more lt before here = row_more alone groups k 0 lt w all rest more before here

  pub groups_fail : k < length groups → IsBehind w (flat_map alone (take k groups)) all rest → IsNotBegun w (f (get_or groups k 0) ∷ []) rest → IsNotBegun w (map f groups) all
  groups_fail lt before none = subst (λ (due : List Job). IsNotBegun w due all) (singles f groups) (row_fails alone groups k 0 lt w all rest before none)

  pub groups_all : length groups ≤ k → IsBehind w (flat_map alone (take k groups)) all rest → IsBehind w (map f groups) all rest
  groups_all over before = subst (λ (due : List Job). IsBehind w due all rest) (singles f groups) (row_all alone groups k over w all rest before)

-- ---- rows on each node

module _ (g : ℕ → List Job) (nodes k : ℕ) (w : Bool) (all rest : List Job) where
  many : length (range_with_len 0 nodes) ≡ nodes
  many = length-range_with_len 0 nodes

  at_node : k < nodes → get_or (range_with_len 0 nodes) k 0 ≡ k
  at_node lt = get_or-range_with_len 0 nodes k 0 lt ∙ zero_and k
    where
      zero_and : (n : ℕ) → 0 + n ≡ n
      zero_and n = omega arith

  pub nodes_more : (more : List Job) → k < nodes → IsBehind w (flat_map g (take k (range_with_len 0 nodes))) all rest → IsBehind w (g k) rest more → IsBehind w (flat_map g (take (k + 1) (range_with_len 0 nodes))) all more
  nodes_more more lt before here = row_more g (range_with_len 0 nodes) k 0 (omega (arith, many, lt)) w all rest more before (subst (λ (n : ℕ). IsBehind w (g n) rest more) (sym (at_node lt)) here)

  pub nodes_fail : k < nodes → IsBehind w (flat_map g (take k (range_with_len 0 nodes))) all rest → IsNotBegun w (g k) rest → IsNotBegun w (flat_map g (range_with_len 0 nodes)) all
  nodes_fail lt before none = row_fails g (range_with_len 0 nodes) k 0 (omega (arith, many, lt)) w all rest before (subst (λ (n : ℕ). IsNotBegun w (g n) rest) (sym (at_node lt)) none)

  pub nodes_all : nodes ≤ k → IsBehind w (flat_map g (take k (range_with_len 0 nodes))) all rest → IsBehind w (flat_map g (range_with_len 0 nodes)) all rest
  nodes_all over before = row_all g (range_with_len 0 nodes) k (omega (arith, many, over)) w all rest before

-- ---- single walks

pub one_behind : (w : Bool) (j m : Job) (ms : List Job) → m ≡ j → IsBehind w (j ∷ []) (m ∷ ms) ms
one_behind w j m ms e = record { begins = (e, tt); behind = refl }

pub none_behind : (j : Job) → IsBehind false (j ∷ []) [] []
none_behind j = record { begins = refl; behind = refl }

pub not_one : (w : Bool) (j m : Job) (ms : List Job) → (m ≡ j → ⊥) → IsNotBegun w (j ∷ []) (m ∷ ms)
not_one w j m ms ne h = ne h.0

pub not_none : (j : Job) → IsNotBegun true (j ∷ []) []
not_none j h = let e : ◌≡◌ {A = Bool} true false = h in cc

-- ---- all of them

pub made_behind : (w : Bool) (due made rest : List Job) (b : Bool) → IsBehind w due made rest → b ≡ (length rest == 0) → Decides b (IsMadeAsDue w due made)
made_behind w due made rest b h e = (
  λ t. record { begins = h.begins; few = let none : length rest ≡ 0 = eqb-true (length rest) 0 (sym e ∙ t) in omega (arith, long, same, none) },
  λ m. e ∙ eq-eqb (length rest) 0 (let few = m.few in omega (arith, long, same, few)),
)
  where
    long : length (drop (length due) made) ≡ length made - length due
    long = length-drop (length due) made

    same : length rest ≡ length (drop (length due) made)
    same = ap length h.behind

pub not_made : (w : Bool) (due made : List Job) → IsNotBegun w due made → Decides false (IsMadeAsDue w due made)
not_made w due made none = (λ t. absurd cc, λ m. absurd (none m.begins))
