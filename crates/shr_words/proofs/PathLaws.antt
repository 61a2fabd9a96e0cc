-- SPDX-License-Identifier: GPL-2.0-only
-- A word that is found among paths is one, and a path more keeps all of them paths.
use Rattle.shr_words.proofs.Common.{◌≡◌, ℕ, ◌+◌, Bool, true, false, List, [], ◌∷◌, ◌++◌, Option, Some, None, option_map, refl, ap, ◌∙◌, bytes_eq, list_all, and_true, Word}
use Rattle.std.specs.Prelude.{IfSome}
use Rattle.std.proofs.lemmas.Slice.Eq.{bytes_eq-Decides}
use Rattle.shr_model.specs.Paths.{is_path}
use Rattle.shr_words.specs.Classes.{place_of}

raised : (w : Word) (r : Option ℕ) → IfSome r (λ _. is_path w ≡ true) → IfSome (option_map (λ i. i + 1) r) (λ _. is_path w ≡ true)
raised w None h = h
raised w (Some i) h = h

found_on : (w p : Word) (ps : List Word) (t : Bool) → bytes_eq w p ≡ t → is_path p ≡ true
    → IfSome (place_of w ps) (λ _. is_path w ≡ true) → IfSome (place_of w (p ∷ ps)) (λ _. is_path w ≡ true)
unfolding place_of
found_on w p ps true e one more = rw e (ap is_path ((bytes_eq-Decides w p).0 e) ∙ one)
found_on w p ps false e one more = rw e (raised w (place_of w ps) more)

found_in : (w : Word) (ps : List Word) → list_all is_path ps ≡ true → IfSome (place_of w ps) (λ _. is_path w ≡ true)
unfolding place_of
found_in w [] h = tt
found_in w (p ∷ ps) h =
    let a = and_true (is_path p) (list_all is_path ps) h in
    found_on w p ps (bytes_eq w p) refl a.0 (found_in w ps a.1)

-- a word that has a place among paths is a path
pub found_is_path : (w : Word) (ps : List Word) (r : Option ℕ) → list_all is_path ps ≡ true → r ≡ place_of w ps → IfSome r (λ _. is_path w ≡ true)
found_is_path w ps r h e = rw e (found_in w ps h)

-- one path behind others that are paths
pub one_path_more : (p : Word) (ps : List Word) → list_all is_path ps ≡ true → is_path p ≡ true → list_all is_path (ps ++ p ∷ []) ≡ true
one_path_more p [] h one = rw one refl
one_path_more p (q ∷ ps) h one =
    let a = and_true (is_path q) (list_all is_path ps) h in
    rw (a.0, one_path_more p ps a.1 one) refl
