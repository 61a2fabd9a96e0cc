-- SPDX-License-Identifier: GPL-2.0-only
-- A line that begins with put is one of a put.
use Rattle.shr_script.proofs.Common.{◌≡◌, ℕ, List, ◌++◌, refl, codes, Word, Work, Put, Workers, State, Drafted, kind_step}
use Rattle.shr_model.specs.Pieces.{cut, pieces}
use Rattle.shr_words.specs.WordReading.{taken}
use Rattle.shr_script.specs.LineReading.{kind_at, kind_of, verb_of}
use Rattle.shr_script.specs.Drafted.{plain_step}

-- among workers such a line is a put of the words behind it
pub put_is : (st : State) (d : Drafted) (ws : List Word) (behind : List ℕ) → st.phase ≡ Workers → ws ≡ pieces 32 (codes "put " ++ behind)
    → plain_step st d ws ≡ kind_step st d (Work Put) (pieces 32 behind)
unfolding plain_step kind_at kind_of verb_of taken pieces cut
put_is st d ws behind phase e = rw (e, phase) refl
