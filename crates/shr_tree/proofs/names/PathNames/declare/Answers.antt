-- SPDX-License-Identifier: GPL-2.0-only
use Rattle.shr_tree.proofs.Common.{◌≡◌, ◌∙◌, refl, map, None, place_of}
use Rattle.shr_words.proofs.NamesLaws.{inserted_last}
use Rattle.shr_tree.proofs.names.PathNames.declare.Goals as goal

pub returns-clause-declared : goal.returns-clause-declared
returns-clause-declared c =
    let w = c.in_ok-from_slice.field-0 in
    let copied = c.in_ok-from_slice.ensures.items in
    let absent : place_of w.items (map (λ v. v.items) c.self.inside.words.keys) ≡ None = rw (copied, c.self.view_is) c.requires in
    inserted_last (λ v. v.items) w c.self.inside.words.keys c.insert.new.self.keys absent c.in_ok-insert.ensures.keys ∙ rw (copied, c.self.view_is) refl
