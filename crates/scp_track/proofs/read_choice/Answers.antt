-- `scp_track::read_choice` meets its contract. Assumes nothing but the contracts of the system's calls.
use Rattle.scp_track.proofs.read_choice.Goals as goal

pub returns : goal.returns
returns g c =
    record {
      words = c.word_count.result;
      a = c.word-a.result;
      b = c.word-b.result;
      c = c.word-c.result;
      d = c.word-d.result;
      choice_is = c.choice_of.ensures;
    }
