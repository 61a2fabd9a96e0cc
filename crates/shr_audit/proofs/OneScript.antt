-- SPDX-License-Identifier: GPL-2.0-only
-- Bytes spell one script whose lists have no room to spare.
use Rattle.shr_audit.proofs.Common.{◌≡◌, ℕ, List, [], ◌∷◌, map, refl, sym, ap, subst, ◌∙◌, Script, WorkerScript, content_of, kept, IsTightScript, IsScriptOf, tight_worker, Content, IsSpelling, IsTightWorker, tight_script}
use Rattle.std.specs.List.{AllByRecursion}
use Rattle.shr_base.specs.Kept.{Kept}
use Rattle.shr_base.specs.declared.scripts.Command.{Command}
use Rattle.shr_script.proofs.ContentLaws.{same_content}
use Rattle.shr_audit_text.proofs.Lasts.{tight_is}

-- a worker of these commands, with a list that has no room to spare
worker_from : List Command → WorkerScript
worker_from cs = record { commands = kept cs }

worker_is : (w : WorkerScript) → IsTightWorker w → worker_from w.commands.items ≡ w
unfolding worker_from
worker_is w t = ap (λ (cs : Kept Command). made cs) (tight_is w.commands t)
  where
    made : Kept Command → WorkerScript
    made cs = record { commands = cs }

workers_are : (ws : List WorkerScript) → AllByRecursion IsTightWorker ws → map worker_from (map (λ w. w.commands.items) ws) ≡ ws
workers_are [] h = refl
workers_are (w ∷ ws) h = both (worker_from w.commands.items) w (map worker_from (map (λ w. w.commands.items) ws)) ws (worker_is w h.0) (workers_are ws h.1)
  where
    both : (a b : WorkerScript) (xs ys : List WorkerScript) → a ≡ b → xs ≡ ys → a ∷ xs ≡ b ∷ ys
    both a b xs ys e f = cc

-- the script that says this, with lists that have no room to spare
script_from : Content → Script
script_from t = record {
  version = t.version;
  nodes = t.nodes;
  ids = t.ids;
  groups = kept t.groups;
  caches = kept t.caches;
  pools = kept t.pools;
  workers = kept (map worker_from t.workers);
  sweep = t.sweep;
}

script_is : (s : Script) → IsTightScript s → script_from (content_of s) ≡ s
unfolding script_from
script_is s t =
    rw (
      tight_is s.groups t.groups,
      tight_is s.caches t.caches,
      tight_is s.pools t.pools,
      workers_are s.workers.items t.commands,
      tight_is s.workers t.workers,
    ) refl

pub one_script : (bytes : List ℕ) (s t : Script) → IsScriptOf bytes s → IsScriptOf bytes t → s ≡ t
one_script bytes s t h k =
    sym (script_is s h.tight) ∙ ap script_from (same_content (content_of s) (content_of t) h.spelling.valid k.spelling.valid (sym h.spelling.spelled ∙ k.spelling.spelled)) ∙ script_is t k.tight

-- what is said stays where the room is gone
said_again : (ws : List WorkerScript) → map (λ w. w.commands.items) (map tight_worker ws) ≡ map (λ w. w.commands.items) ws
said_again [] = refl
said_again (w ∷ ws) = ap (λ (cs : List (List Command)). w.commands.items ∷ cs) (said_again ws)

all_tight : (ws : List WorkerScript) → AllByRecursion IsTightWorker (map tight_worker ws)
all_tight [] = tt
all_tight (w ∷ ws) = (refl, all_tight ws)

-- the script that was read, when its lists have no room
pub tight_read : (bytes : List ℕ) (s : Script) → IsSpelling bytes (content_of s) → IsScriptOf bytes (tight_script s)
tight_read bytes s h = record {
  spelling = subst (λ (t : Content). IsSpelling bytes t) (sym same) h;
  tight = record { groups = refl; caches = refl; pools = refl; workers = refl; commands = all_tight s.workers.items };
}
  where
    same : content_of (tight_script s) ≡ content_of s
    same = rw (said_again s.workers.items) refl
