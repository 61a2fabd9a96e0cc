-- SPDX-License-Identifier: GPL-2.0-only
-- A look-up of a name by its print, whose node says whose it is.
use Rattle.shr_list.proofs.Common.{◌≡◌, ℕ, IsSome, Added, New, Known, Crowded, true, false, List, ◌∷◌, ◌++◌, Some, sym, ap, subst, ◌∙◌, Result, Ok, Err, OnErr, Object, is_named, Names, Keyed, found_clash, AddsClash, IsSameClashes, Name, name_by, print_of, entry_at, in_nodes, IsIndexed, AddsName, KeepsFound, IfOk}
use Rattle.shr_base.specs.declared.memory.Memory.{Memory}
use Rattle.shr_list.proofs.Fitting.{entry_owner, owned_else, fits_kept, gains_clash}
use Rattle.shr_list.proofs.Indexed.{found_at, named_is, named_itself}

-- the node that the print of a name has: it is one of those that are indexed, and its object tells
-- whether it is this name's
pub record Looked (names : Names) (nodes : List Keyed) (name : Name) (k : ℕ) : Type 0 where
  pub before : List Keyed
  pub object : Object
  pub after : List Keyed
  pub split : nodes ≡ before ++ (k, object) ∷ after
  pub hit : is_named name.0 name.1 object ≡ true → in_nodes nodes name ≡ Some k
  pub miss : is_named name.0 name.1 object ≡ false → in_nodes nodes name ≡ found_clash names.clashes name

pub looked : (names : Names) (nodes : List Keyed) (name : Name) (k : ℕ) → IsIndexed names nodes → entry_at names (print_of name.0 name.1) ≡ Some k → Looked names nodes name k
looked names nodes name k indexed is =
    let own = entry_owner names (in_nodes nodes) indexed.fits (print_of name.0 name.1) k is in
    let at = found_at own.0.0 own.0.1 nodes k own.2 in
    let by : name_by at.object ≡ own.0 = named_is own.0.0 own.0.1 at.object at.named in
    record {
      before = at.before;
      object = at.object;
      after = at.after;
      split = at.split;
      hit = λ hit. ap (in_nodes nodes) (sym (named_is name.0 name.1 at.object hit) ∙ by) ∙ own.2;
      miss = λ miss.
          indexed.fits.finds name
          ∙ owned_else (indexed.fits.owner (print_of name.0 name.1)) name (entry_at names (print_of name.0 name.1)) (found_clash names.clashes name)
          (λ n owner e.
          let both = sym own.1 ∙ owner in
          let one : own.0 ≡ n = cc in
          let here = subst (λ (m : Name). is_named m.0 m.1 at.object ≡ true) (by ∙ one ∙ e) (named_itself at.object) in
          absurd (cc));
    }

module _ (old new : Names) (entries : (print : ℕ) → entry_at new print ≡ entry_at old print) where
  -- what the clashes are told of a name that they alone may have
  pub told_clash : (nodes : List Keyed) (name : Name) (node : ℕ) (r : Result Added Memory) → IsSome (entry_at old (print_of name.0 name.1)) → in_nodes nodes name ≡ found_clash old.clashes name
      → IfOk r (λ added. AddsClash old.clashes new.clashes name node added) → IfOk r (λ added. AddsName old new nodes name node added)
  told_clash nodes name node (Ok New) taken asked adds = (asked ∙ adds.0, gains_clash old new name node entries adds.1)
  told_clash nodes name node (Ok Known) taken asked adds = (rw asked adds.0, fits_kept old new entries adds.1)
  told_clash nodes name node (Ok Crowded) taken asked adds = (asked ∙ adds.0, record { first = taken; second = adds.1 }, fits_kept old new entries adds.2)
  told_clash nodes name node (Err e) taken asked adds = tt

  pub kept_clash : (r : Result Added Memory) → OnErr r (IsSameClashes old.clashes new.clashes) → OnErr r (KeepsFound old new)
  kept_clash (Ok added) same = tt
  kept_clash (Err e) same = fits_kept old new entries same
