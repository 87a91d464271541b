-- The examples about writes, computed.
use Rattle.std.proofs.Common.{refl}
use Rattle.page.specs.Page.{Page}
use Rattle.screen.specs.Screen.{full, place_col, place_row, put_pen}
use Rattle.std.specs.Fmt.{digits}
use Rattle.std.specs.Str.{chars}
use Rattle.worked.specs.Writes.{WorkedWrites}

pub worked-writes : (p : Page) → WorkedWrites p
unfolding put_pen place_row place_col full chars digits
worked-writes p = record {
  set-abc = refl;
  set-end = refl;
  insert-d = refl;
  insert-cursor = refl;
  go-start = refl;
  refresh-all = refl;
  broken-cursor = refl;
  broken-end = refl;
}
