-- SPDX-License-Identifier: GPL-2.0-only
use Rattle.std.proofs.Common.{◌+◌, ◌*◌}
use Rattle.shr_reading.proofs.reading.+runs.Given as goal

abbrev pub decreases-front : goal.decreases-front
decreases-front g l = 2 * l.fewer + 1

abbrev pub decreases-back : goal.decreases-back
decreases-back g l = 2 * l.fewer + 1

abbrev pub decreases-read_run : goal.decreases-read_run
decreases-read_run g l = 2 * l.cuts
