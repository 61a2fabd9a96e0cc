-- SPDX-License-Identifier: GPL-2.0-only
-- The names that the proofs of this crate cite most, passed on from one place. Declares nothing.
pub use Rattle.std.proofs.Common.{Bool, Bor, Err, List, None, Ok, Option, Result, Some, [], ap, arith, bit_and, cond, drop, eq-eqb, false, get_or, leb, length, lit<, map, nat_lt, refl, rules, subst, suc, sym, take, true, zero, ℕ, ◌&&◌, ◌*◌, ◌++◌, ◌+◌, ◌-◌, ◌<◌, ◌||◌, ◌∙◌, ◌∷◌, ◌≡◌, ◌≤◌}
pub use Rattle.std.proofs.lemmas.Bool.Decides.{nat_tests}
pub use Rattle.std.proofs.lemmas.List.{map_push, take_rest}
pub use Rattle.std.proofs.lemmas.Simd.{length-chunk, zip2_splat}
pub use Rattle.std.specs.List.{list_all, list_any, position, position_or_len, prefix_len}
pub use Rattle.std.specs.Prelude.{bytes_eq, codes, decimal, min, nat_le, option_map, slice_index, slice_index_or, ◌==◌}
pub use Rattle.std.specs.Str.Parse.{digits_value}
pub use Rattle.shr_base.specs.declared.scripts.Code.{Code}
pub use Rattle.shr_base.specs.declared.scripts.Code.TheVariants.{BadText, UnknownCache, UnknownGroup}
pub use Rattle.shr_model.proofs.PiecesLaws.{and_true, cut_first, cut_part, joined_cut, same_byte}
pub use Rattle.shr_model.specs.Paths.{all_parts}
pub use Rattle.shr_model.specs.Pieces.{differs, pieces}
pub use Rattle.shr_model.specs.PieceParts.{is_part_of, left}
pub use Rattle.shr_model.specs.Words.{is_between, is_name_byte, is_part, is_value, is_visible}
pub use Rattle.shr_words.specs.Classes.{Item, KeyTest, Listed, Marked, N, NameTest, Number, PathTest, Plain, Test, Valued, W, Word, number_said, place_of, ◌>>=◌}
pub use Rattle.shr_words.specs.WordReading.{found_or, is_digit}
pub use Rattle.shr_words.specs.Runs.{AllPassBetween, IsDigit, cut_at, taken_of}
pub use lib.Lanes.{chunk}
