-- The worked plan reads as it should, by computation.
use mathlib.Core.Path.{refl}
use Rattle.plan.specs.Names.{name_at, names_of}
use Rattle.listing.specs.Words.{decimal, digits_from}
use Rattle.moves.specs.Worked.{Spoken}

pub spoken : Spoken
unfolding name_at names_of decimal digits_from
spoken =
    record {
      moved = refl;
      put_back = refl;
      still_open = refl;
      nothing = refl;
      abort_move = refl;
      commit_move = refl;
      abort_step = refl;
      begin_undo = refl;
      commit_undo = refl;
      no_name = refl;
      refused = refl;
    }
