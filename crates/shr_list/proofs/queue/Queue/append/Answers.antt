-- SPDX-License-Identifier: GPL-2.0-only
use Rattle.shr_list.proofs.Common.{◌≡◌, ◌∷◌, ◌++◌, [], ◌∙◌, ap, refl, true, false, rules, List, map-append, Keyed, keys_of, objects_of, name_by, AdmitsName, holds, fresh}
use Rattle.shr_list.proofs.Indexed.{off_unheld, none_at, held_found}
use Rattle.shr_list.proofs.Slots.{keys_kept, keys_pushed, kept_itself}
use Rattle.shr_list.proofs.queue.Queue.append.Goals as goal

pub returns-in-Ok-false-clause-told : goal.returns-in-Ok-false-clause-told
returns-in-Ok-false-clause-told c =
    let nodes = c.self.inside.links.nodes in
    let admits : AdmitsName c.admit.new.self c.admit.new.links (name_by c.args.object) false = search rules in
    rw (← c.self.view_is, c.admit.ensures.nodes) (held_found nodes (name_by c.args.object) (rw c.admit.ensures.nodes at admits.0), refl)

pub returns-in-Ok-false-clause-keys : goal.returns-in-Ok-false-clause-keys
returns-in-Ok-false-clause-keys c =
    rw (← c.self.view_is, c.admit.ensures.nodes) (keys_kept c.self.inside.links.nodes c.self.inside.links.nodes (kept_itself c.self.inside.links.nodes))

pub returns-in-Err-clause-keys : goal.returns-in-Err-clause-keys
returns-in-Err-clause-keys c =
    rw (← c.self.view_is, c.admit.ensures.nodes) (keys_kept c.self.inside.links.nodes c.self.inside.links.nodes (kept_itself c.self.inside.links.nodes))

pub returns : goal.returns
returns c =
    let o = c.args.object in
    let nodes = c.self.inside.links.nodes in
    let node = c.admit.new.links.vacant in
    let last = fresh o.serial o.birth o.key o.value in
    let admits : AdmitsName c.admit.new.self c.admit.new.links (name_by o) true = search rules in
    let whole : c.push_back.new.self.nodes ≡ nodes ++ (node, last) ∷ [] = c.push_back.ensures.nodes ∙ ap (λ (ns : List Keyed). ns ++ (node, last) ∷ []) c.admit.ensures.nodes in
    let absent : holds o.birth o.key (objects_of nodes) ≡ false = none_at o.birth o.key nodes (rw c.admit.ensures.nodes at admits.0) in
    rw (← c.self.view_is) record {
      told = (absent, ap objects_of whole ∙ map-append (λ (n : Keyed). n.1) nodes ((node, last) ∷ []), (node, ap keys_of whole ∙ map-append (λ (n : Keyed). n.0) nodes ((node, last) ∷ [])));
      keys = rw whole (keys_pushed nodes node last (off_unheld o.birth o.key nodes absent));
      kept = tt;
      back = tt;
    }
