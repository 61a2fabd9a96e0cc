-- SPDX-License-Identifier: GPL-2.0-only
-- Lists of entries, each of which may stand behind those before it.
use Rattle.std.specs.Prelude.{List, [], ◌∷◌, ◌++◌}

-- the entries may stand behind these, each by what stands before it
abbrev pub Follow : {E : Type 0} → (List E → E → Type 0) → List E → List E → Type 0
Follow may before [] = Unit {0}
Follow may before (e ∷ es) = may before e × Follow may (before ++ e ∷ []) es
