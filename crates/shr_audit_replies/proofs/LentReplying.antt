-- SPDX-License-Identifier: GPL-2.0-only
-- What a reply lends, against what was found.
use Rattle.shr_audit_replies.proofs.LendingCommon.{◌≡◌, ℕ, Bool, List, Option, Some, sym, ap, ◌∙◌, Decides, Place, Report, at, option_map, answer_at, IsLentTo}
use Rattle.shr_base.specs.declared.places.At.{At}
use Rattle.shr_base.specs.declared.places.Serial.{Serial}
use Rattle.shr_base.specs.declared.replies.Answered.{Answered}
use Rattle.shr_base.specs.declared.replies.Reply.{Reply}
use Rattle.shr_base.specs.declared.replies.Reply.TheVariants.{Hit}
use Rattle.shr_model.proofs.Lists.{some_injective}

hit_value : (c d : At) (v w : List ℕ) → Hit c v ≡ Hit d w → v ≡ w
hit_value c d v w e = cc

-- a hit that cites this entry
pub hit_lends : (x : Reply) (c a : At) (v : List ℕ) (found : Option (List ℕ)) (b : Bool) → x ≡ Hit c v → c ≡ a → Decides b (found ≡ Some v) → Decides b ((value : List ℕ) → x ≡ Hit a value → found ≡ Some value)
hit_lends x c a v found b is same d = (
  λ t value e. d.0 t ∙ ap (λ (w : List ℕ). Some w) (hit_value c a v value (sym is ∙ e)),
  λ all. d.1 (all v (is ∙ ap (λ (y : At). Hit y v) same)),
)

-- the reply of an answer
pub answer_lends : (r : Report) (place : Place) (n : ℕ) (by : Serial) (a : Answered) (found : Option (List ℕ)) (b : Bool) → Some a ≡ answer_at r by → Decides b ((value : List ℕ) → a.reply ≡ Hit (at place n) value → found ≡ Some value) → Decides b (IsLentTo r place n by found)
answer_lends r place n by a found b is d = (
  λ t value e. d.0 t value (some_injective a.reply (Hit (at place n) value) (ap (option_map (λ (x : Answered). x.reply)) is ∙ e)),
  λ all. d.1 (λ value e. all value (sym (ap (option_map (λ (x : Answered). x.reply)) is) ∙ ap (λ (y : Reply). Some y) e)),
)
