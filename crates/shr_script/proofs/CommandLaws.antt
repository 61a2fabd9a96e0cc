-- SPDX-License-Identifier: GPL-2.0-only
-- A line in one form for all kinds: its words, its rule, and what it says and adds.
use Rattle.shr_script.proofs.Common.{◌≡◌, List, refl, nat_le, Result, Ok, Err, Code, ◌>>=◌, Word, Item, items_said, Kind, Header, Size, Group, Cache, Pool, Worker, Work, Sweep, End, Verb, State, classes, verb_classes, own, after, refused_if, Drafted, command_by, added}
use Rattle.shr_base.specs.declared.scripts.Code.TheVariants as codes_of
use Rattle.shr_script.specs.Drafted.{one_more, command_said, command_step, kind_step}

-- a command's, by what its words were read as
by_items : (st : State) (d : Drafted) (verb : Verb) (r : Result (List Item) Code)
    → ((r >>= λ xs. Ok (command_by verb xs)) >>= λ c. refused_if (nat_le 20000 st.commands) codes_of.TooMany >>= λ _. Ok (one_more st d c))
    ≡ (r >>= λ xs. own st (Work verb) xs >>= λ _. Ok (after st (Work verb) xs, added st d (Work verb) xs))
by_items st d verb (Ok xs) = refl
by_items st d verb (Err code) = refl

pub kind_step_is : (st : State) (d : Drafted) (k : Kind) (ws : List Word)
    → kind_step st d k ws ≡ (items_said (classes st k) ws >>= λ xs. own st k xs >>= λ _. Ok (after st k xs, added st d k xs))
unfolding kind_step command_step command_said
kind_step_is st d Header ws = refl
kind_step_is st d Size ws = refl
kind_step_is st d (Group late) ws = refl
kind_step_is st d Cache ws = refl
kind_step_is st d Pool ws = refl
kind_step_is st d Worker ws = refl
kind_step_is st d (Work verb) ws = by_items st d verb (items_said (verb_classes st verb) ws)
kind_step_is st d Sweep ws = refl
kind_step_is st d End ws = refl
