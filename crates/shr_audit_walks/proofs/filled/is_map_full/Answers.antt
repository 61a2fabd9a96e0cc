-- SPDX-License-Identifier: GPL-2.0-only
use Rattle.shr_audit_walks.proofs.LaterCommon.{arith, ap, ◌∙◌, WalkRecord, word_by_key}
use Rattle.shr_audit_walks.proofs.Filling.{map_decided}
use Rattle.shr_audit_walks.proofs.filled.is_map_full.Goals as goal

pub returns : goal.returns
returns c =
    let node = ap (λ (w : WalkRecord). w.node) c.walk.view_is in
    let group = ap (λ (w : WalkRecord). w.group) c.walk.view_is in
    let few = rw group at c.word_key-key.ensures.group in
    let at_node = rw node at c.word_key-key.ensures.key in
    let key = rw group at at_node in
    map_decided c.args.filled.now c.args.walk.now c.args.map.now few (omega arith) c.word_in-word.result (c.word_in-word.ensures ∙ ap (word_by_key c.args.filled.now) key) c.word_in-word.type_inv
