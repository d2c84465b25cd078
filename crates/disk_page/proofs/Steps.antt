-- Steps of writing to a page, one after the other. Assumes nothing.
use Rattle.std.proofs.Common.{ℕ, ◌+◌, ◌≤◌, ◌≡◌, List, [], ◌++◌, ◌∙◌, refl}
use Rattle.basis.specs.Lists.{joined}
use Rattle.lines.proofs.Writing.{◌then◌, none, wrote-few}
use Rattle.disk_page.specs.declared.Page.{Page}
use Rattle.disk_page.specs.Page.{Entry, entry_lines}
use Rattle.disk_page.specs.PrivateContracts.{WroteOn}
use Rattle.disk_page.proofs.Lines.{lines_none, lines_more}

-- some bytes, and then more
pub ◌and◌ : {a b c : Page} {m n : ℕ} {xs ys : List ℕ} → WroteOn a b xs m → WroteOn b c ys n → WroteOn a c (xs ++ ys) (m + n)
first and second = record { wrote = first.wrote then second.wrote; same_buffer = second.same_buffer ∙ first.same_buffer }

infixl 4 ◌and◌
-- nothing
pub nothing_on : (a : Page) (m : ℕ) → WroteOn a a [] m
nothing_on a m = record { wrote = none a.out.now a.at m; same_buffer = refl }

-- with a larger bound
pub few_on : {a b : Page} {m n : ℕ} {xs : List ℕ} → m ≤ n → WroteOn a b xs m → WroteOn a b xs n
few_on h w = record { wrote = wrote-few h w.wrote; same_buffer = w.same_buffer }

-- none yet, and the lines of one place more
pub none_joined : (f : ℕ → List Entry) (a : Page) (m : ℕ) → WroteOn a a (entry_lines (joined f 0)) m
none_joined f a m = record { wrote = lines_none f a.out.now a.at m; same_buffer = refl }

pub more_joined : {a b c : Page} {m n p : ℕ} (f : ℕ → List Entry) (i : ℕ) → WroteOn a b (entry_lines (joined f i)) m → WroteOn b c (entry_lines (f i)) n
    → m + n ≤ p → WroteOn a c (entry_lines (joined f (i + 1))) p
more_joined f i first second h =
    record { wrote = lines_more f i first.wrote second.wrote h; same_buffer = second.same_buffer ∙ first.same_buffer }

-- lines of the same entries, and of none
pub same_on : {a b : Page} {m n : ℕ} {es fs : List Entry} → es ≡ fs → m ≤ n → WroteOn a b (entry_lines es) m → WroteOn a b (entry_lines fs) n
same_on e h w = rw (← e) (few_on h w)

pub none_on : {fs : List Entry} (a : Page) (m : ℕ) → [] ≡ fs → WroteOn a a (entry_lines fs) m
unfolding entry_lines
none_on a m e = rw (← e) (nothing_on a m)
