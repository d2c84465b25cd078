-- The listings of rules 11.1, 11.4 and 11.10, by computation: lines, headers, and what is printed of a refused track. Assumes nothing.
use mathlib.Core.Path.{◌≡◌, refl}
use mathlib.Core.List.{[], ◌∷◌, ◌++◌}
use Rattle.findings.specs.Calls.{findings_answer}
use Rattle.finding_list.specs.declared.Finding.{Finding}
use Rattle.sectors.specs.Calls.{track_judged}
use Rattle.lines.specs.Lines.{bytes_of, digit, digits_within, decimal_of, two_digits, names, name_of, header_of, finding_line, refused_line}
use Rattle.listing.specs.Listing.{lines_of, printed, listing_of}

-- the findings of these examples
abbrev nos : Finding
nos = record { kind = 3; level = 3; place = 0; detail = 0 }

abbrev tnf : Finding
tnf = record { kind = 4; level = 2; place = 0; detail = 0 }

abbrev nfa : Finding
nfa = record { kind = 21; level = 1; place = 0; detail = 100000 }

-- T 5, H 0 and 100,000 cells without a sector: NOS and TNF
pub lines-of-findings : header_of 5 0 100000 0 2 ++ lines_of (nos ∷ tnf ∷ [])
    ≡ bytes_of "T05 H0 cells 100000 sectors 0 findings 2\n3 NOS level 3 place 0 detail 0\n4 TNF level 2 place 0 detail 0\n"
unfolding header_of two_digits lines_of finding_line name_of names decimal_of digits_within digit bytes_of
lines-of-findings = refl

-- the same at T 80: NOS alone
pub listing-80 : header_of 80 0 100000 0 1 ++ lines_of (nos ∷ [])
    ≡ bytes_of "T80 H0 cells 100000 sectors 0 findings 1\n3 NOS level 3 place 0 detail 0\n"
unfolding header_of two_digits lines_of finding_line name_of names decimal_of digits_within digit bytes_of
listing-80 = refl

-- the standard track at T 0: nine sectors and no finding
pub standard-header : header_of 0 0 100000 9 0 ≡ bytes_of "T00 H0 cells 100000 sectors 9 findings 0\n"
unfolding header_of two_digits decimal_of digits_within digit bytes_of
standard-header = refl

-- 100,000 cells that are all 0, at T 80: NOS and NFA
pub zero-cells : lines_of (nos ∷ nfa ∷ []) ≡ bytes_of "3 NOS level 3 place 0 detail 0\n21 NFA level 1 place 0 detail 100000\n"
unfolding lines_of finding_line name_of names decimal_of digits_within digit bytes_of
zero-cells = refl

-- T 84; 19,999 cells; no bytes for 20,000 cells; bytes that are no track file
pub refused-track : listing_of [] 100000 84 0 ≡ bytes_of "refused 1\n"
unfolding listing_of printed findings_answer track_judged refused_line decimal_of digits_within digit bytes_of
refused-track = refl

pub refused-cells : listing_of [] 19999 0 0 ≡ bytes_of "refused 2\n"
unfolding listing_of printed findings_answer track_judged refused_line decimal_of digits_within digit bytes_of
refused-cells = refl

pub refused-bytes : listing_of [] 20000 0 0 ≡ bytes_of "refused 3\n"
unfolding listing_of printed findings_answer track_judged refused_line decimal_of digits_within digit bytes_of
refused-bytes = refl

pub refused-file : refused_line 15 ≡ bytes_of "refused 15\n"
unfolding refused_line decimal_of digits_within digit bytes_of
refused-file = refl
