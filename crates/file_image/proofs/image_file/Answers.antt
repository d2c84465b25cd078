-- `file_image::image_file` meets its contract. Assumes nothing.
use Rattle.file_image.proofs.Whole.{told-file}
use Rattle.file_image.proofs.image_file.Goals as goal

pub returns : goal.returns
returns c =
    let finish = c.finish-read.ensures in
    let i = c.image_read.ensures in let both = told-file _ _ _ _ _ _ finish.file (i.answer, i.image) _ finish.answer in record { answer = both.0; image = both.1.0; file = both.1.1 }
