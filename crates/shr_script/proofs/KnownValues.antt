-- SPDX-License-Identifier: GPL-2.0-only
-- The spelling of a small script.
use Rattle.shr_script.proofs.Common.{◌≡◌, true, false, [], ◌∷◌, codes, None, Some, Ok, Err, refl, root_path, Command, Target, Get, Del, SetPin, N, item_of, Groups, State, start, later_class, most_ids, most_groups, Content, spell}
use Rattle.std.specs.Fmt.{digits}
use Rattle.shr_model.specs.Pieces.{cut, pieces, joined}
use Rattle.shr_model.specs.Paths.{is_path, parent_path}
use Rattle.shr_base.specs.declared.scripts.Act.{Act}
use Rattle.shr_base.specs.declared.scripts.Code.TheVariants.{NoParent, UnknownGroup}
use Rattle.shr_words.specs.WordReading.{listed_of}
use Rattle.shr_words.specs.Classes.{passes, place_of}
use Rattle.shr_script.specs.Lines.{group_rule}
use Rattle.shr_base.specs.declared.objects.Policy.TheVariants.{Plain as PlainPolicy}
use Rattle.shr_base.specs.declared.scripts.Command.TheVariants as commands
use Rattle.shr_script.specs.Script.{spell_lines}

abbrev on_dentry : Target
on_dentry = record { group = 1; node = 0; decl = 0 }

abbrev done_with : Act → Command
done_with act = commands.On on_dentry (codes "k1") act

abbrev small : Content
small = record {
  version = 1;
  nodes = 1;
  ids = 1;
  groups = record { path = codes "/a"; parent = 0; limit = None; later = false } ∷ [];
  caches = record { name = codes "dentry"; policy = PlainPolicy; seeks = 2; batch = 0; floor = 0; fs = false; on = true } ∷ [];
  pools = [];
  workers = (commands.Put on_dentry (codes "k1") (codes "v1") ∷ done_with Get ∷ done_with (SetPin true) ∷ done_with (SetPin false) ∷ done_with Del ∷ commands.Shrink 1 0 12 true ∷ []) ∷ [];
  sweep = None;
}

-- the lines of the small script, each with its line feed
small_spelled : spell small
    ≡ joined 10 (codes "shrinkers 1")
    (codes "size 1 1" ∷ codes "group /a max" ∷ codes "cache dentry plain 2 0 0 any on" ∷ codes "worker" ∷ codes "put /a 0 dentry k1 =v1" ∷ codes "get /a 0 dentry k1" ∷ codes "pin /a 0 dentry k1" ∷ codes "unpin /a 0 dentry k1" ∷ codes "del /a 0 dentry k1" ∷ codes "shrink /a 0 12 nofs" ∷ codes "end" ∷ [] ∷ [])
unfolding spell_lines joined digits
small_spelled = refl

-- one of version 2 with a later group that a command makes
abbrev growing : Content
growing = record {
  version = 2;
  nodes = 4;
  ids = 256;
  groups = record { path = codes "/a"; parent = 0; limit = None; later = false } ∷ record { path = codes "/a/b"; parent = 1; limit = Some 7; later = true } ∷ [];
  caches = [];
  pools = [];
  workers = (commands.MkGroup 2 ∷ []) ∷ [];
  sweep = None;
}

growing_spelled : spell growing
    ≡ joined 10 (codes "shrinkers 2") (codes "size 4 256" ∷ codes "group /a max" ∷ codes "later /a/b 7" ∷ codes "worker" ∷ codes "mkgroup /a/b" ∷ codes "end" ∷ [] ∷ [])
unfolding spell_lines joined digits
growing_spelled = refl

-- what has been said behind the groups of that script
abbrev grown : State
grown = record start { phase = Groups; version = 2; nodes = 4; ids = 256; groups = root_path ∷ codes "/a" ∷ codes "/a/b" ∷ []; later = false ∷ false ∷ true ∷ [] }

-- a group that isn't later doesn't stand below a later one, whether it is there or not
below_a_later_group : group_rule grown false (codes "/a/b/c") ≡ Err NoParent
unfolding group_rule place_of parent_path
below_a_later_group = refl

-- a later one does
later_below_a_later_group : group_rule grown true (codes "/a/b/c") ≡ Ok tt
unfolding group_rule place_of parent_path
later_below_a_later_group = refl

-- that there is no parent comes before that the group is there
no_parent_comes_first : group_rule (record grown { groups = root_path ∷ codes "/a" ∷ codes "/a/b" ∷ codes "/a/b/c" ∷ [] }) false (codes "/a/b/c") ≡ Err NoParent
unfolding group_rule place_of parent_path
no_parent_comes_first = refl

-- only a later group is made
made_by_a_command : item_of (later_class grown) (codes "/a/b") ≡ Ok (N 2)
unfolding listed_of passes is_path pieces cut place_of
made_by_a_command = refl

not_made_by_a_command : item_of (later_class grown) (codes "/a") ≡ Err UnknownGroup
unfolding listed_of passes is_path pieces cut place_of
not_made_by_a_command = refl

ids_of_version_1 : most_ids 1 ≡ 64
ids_of_version_1 = refl

ids_of_version_2 : most_ids 2 ≡ 256
ids_of_version_2 = refl

groups_of_version_1 : most_groups 1 ≡ 64
groups_of_version_1 = refl

groups_of_version_2 : most_groups 2 ≡ 256
groups_of_version_2 = refl
