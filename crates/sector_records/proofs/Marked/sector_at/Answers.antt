-- `sector_records::Marked::sector_at` meets its contract. Assumes nothing.
use mathlib.Core.Path.{sym, ◌∙◌}
use Rattle.sector_records.proofs.Records.{record-without, record-with}
use Rattle.sector_records.proofs.Marked.sector_at.Goals as goal

pub returns-in-None : goal.returns-in-None
returns-in-None c =
    record-without _ _ _ _ _ _ _ _ _ _ c.byte_on.ensures c.id_byte.ensures c.id_byte-2.ensures c.id_byte-3.ensures c.id_byte-size_code.ensures c.check_good.ensures c.no_sector.ensures
    (sym c.in-None.is ∙ c.find_data.ensures.place)

pub returns-in-Some : goal.returns-in-Some
returns-in-Some c =
    record-with _ _ _ _ _ _ _ _ _ _ _ _ _ _ c.byte_on.ensures c.id_byte.ensures c.id_byte-2.ensures c.id_byte-3.ensures c.id_byte-size_code.ensures c.check_good.ensures
    (sym c.in-Some.is ∙ c.find_data.ensures.place) c.byte_on-in-Some.ensures c.length_of-length.ensures.0 c.check_good-in-Some.ensures c.data_end.ensures
