-- SPDX-License-Identifier: GPL-2.0-only
use Rattle.shr_worker.proofs.Common.{◌<◌, List, length, ap, sym, subst, ◌∙◌, arith, Place, Setting, home_place, room_of, content_of, Sizes, Acting, unfound, grab_reply}
use Rattle.shr_plain.specs.Answers.{GrabGives}
use Rattle.shr_worker.specs.Plain.{worker_units_place}
use Rattle.shr_worker.proofs.Pooled.{of_script, pool_there, grab_there}
use Rattle.shr_worker.proofs.pools.grab.Goals as goal

pub units_place-place-requires : goal.units_place-place-requires
units_place-place-requires g c = let t = grab_there (content_of c.args.worker.now.shared.script) c.args.node c.args.pool c.requires.within in
    subst (λ (w : Acting). c.args.pool < length w.shared.script.pools.items) (sym c.worker.view_is) t.in_pool

pub grab-answer-requires : goal.grab-answer-requires
grab-answer-requires g c = let t = grab_there (content_of c.args.worker.now.shared.script) c.args.node c.args.pool c.requires.within in record { pool = pool_there c.args.worker.now.shared.script c.args.plain.now.pools c.requires.pools c.args.pool c.args.node t.in_pool t.on_node }

pub grab_reply-requires : goal.grab_reply-requires
grab_reply-requires g c = let t = grab_there (content_of c.args.worker.now.shared.script) c.args.node c.args.pool c.requires.within in
    let there = (pool_there c.args.worker.now.shared.script c.args.plain.now.pools c.requires.pools c.args.pool c.args.node t.in_pool t.on_node).pool in
    let same = ap (λ (x : Place). x.id) c.units_place-place.ensures in let low = c.args.plain.now.pools.pools in let few = c.args.plain.now.pools.ids.1 in omega (arith, there, same, low, few)

pub returns : goal.returns
returns g c = let s = c.args.worker.now.shared.script in let old = c.args.plain.now in let p = old.pools in let pool = c.args.pool in let node = c.args.node in let did = c.grab-answer.ensures.grabbed in let new = c.grab-answer.new.self in record {
  grabs = record {
    did = record {
      answer = c.grab-answer.result;
      told = c.unfound.ensures ∙ ap unfound (c.grab_reply.ensures ∙ ap (λ (x : Place). grab_reply x c.grab-answer.result) (c.units_place-place.ensures ∙ ap (λ (w : Acting). worker_units_place w.shared.script pool node) c.worker.view_is));
      grabbed = of_script s p c.requires.pools (λ (l : List Setting) (z : Sizes). GrabGives (home_place l pool node) (room_of l z pool node) c.args.worker.now.by c.grab-answer.result old.state new.state)
          (subst (λ (w : Acting). GrabGives (home_place p.settings.items pool node) (room_of p.settings.items p.sizes pool node) w.by c.grab-answer.result old.state new.state) c.worker.view_is did.did);
    };
    rest = did.rest;
  };
}
