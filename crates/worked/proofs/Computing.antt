-- The examples, computed.
use lib.Utf8.{encode}
use Rattle.std.proofs.Common.{refl}
use Rattle.screen.specs.Bytes.{act, begin, finish, move, step_in}
use Rattle.screen.specs.Screen.{full, mark_at, on_row, place_col, place_row, placed, put_pen, split, wipe_from}
use Rattle.worked.proofs.Bracketing.{worked-brackets}
use Rattle.worked.proofs.Checking.{worked-texts}
use Rattle.worked.proofs.Paging.{worked-pages}
use Rattle.worked.proofs.Reading.{worked-parameters}
use Rattle.worked.proofs.Readying.{worked-ready}
use Rattle.worked.proofs.Refusing.{worked-rules}
use Rattle.worked.proofs.Writing.{worked-writes}
use Rattle.worked.proofs.Stepping.{worked-asks, worked-runs, worked-steps}
use Rattle.worked.specs.Places.{WorkedPlaces}
use Rattle.worked.specs.Rows.{WorkedDrops, WorkedHalves, WorkedMarks, WorkedWrap}
use Rattle.worked.specs.Steps.{world_of}
use Rattle.worked.specs.Worked.{WorkedFacts}

worked-places : WorkedPlaces
unfolding put_pen place_row place_col full
worked-places = record {
  full-row = record { measuring = λ tab. refl; drawing = refl };
  one_more = record { measuring = λ tab. refl; drawing = refl };
  wide = record { measuring = λ tab. refl; drawing = refl };
  newline = record { measuring = λ tab. refl; drawing = refl };
}

worked-halves : WorkedHalves
unfolding encode step_in begin finish act move put_pen on_row placed split wipe_from
worked-halves = record { drawn = refl; left-taken = refl; right-taken = refl; both-taken = refl; right-erased = refl; last-erased = refl }

worked-wrap : WorkedWrap
unfolding encode step_in begin put_pen on_row placed split
worked-wrap = record { left_out = refl; next_row = refl; cursor = refl }

worked-marks : WorkedMarks
unfolding encode step_in begin finish act move put_pen on_row placed split mark_at
worked-marks = record { on-wide = refl; replaced = refl; full-row = refl; after-style = refl; after-move = refl; after-torn = refl }

worked-drops : WorkedDrops
unfolding encode step_in begin finish act move put_pen on_row placed split wipe_from mark_at
worked-drops = record {
  after-control = refl;
  after-no_lead = refl;
  after-escapes = refl;
  after-cut = refl;
  after-erasing = refl;
  after-hold = refl;
  counts-itself = refl;
  two-overlong = refl;
  three-overlong = refl;
  four-overlong = refl;
  surrogate = refl;
  past-last = refl;
  behind-escape = refl;
  right-edge = refl;
}

pub worked-proof : WorkedFacts
worked-proof = record { places = worked-places; writes = worked-writes; pages = worked-pages; rules = worked-rules; asks = λ t z. worked-asks (world_of t) z; steps = λ t z. worked-steps (world_of t) z; runs = λ t z. worked-runs (world_of t) z; brackets = worked-brackets; halves = worked-halves; wrap = worked-wrap; marks = worked-marks; drops = worked-drops; parameters = worked-parameters; ready = worked-ready; texts = worked-texts }
