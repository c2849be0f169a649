-- The lines that tell what was gathered.
use Rattle.std.specs.Prelude.{ℕ, zero, suc, List, [], ◌∷◌, ◌++◌, codes, length}
use Rattle.std.specs.List.{flat_map}
use Rattle.std.specs.Fmt.{decimal}
use Rattle.std.specs.FinMap as fin
use Rattle.sc_view.specs.declared.view.Stored.{Stored}
use Rattle.sc_view.specs.Views.{ViewMap}
use Rattle.q_session.specs.declared.query.Phase.{Phase}
use Rattle.q_session.specs.declared.query.Phase.TheVariants.{Answered}
use Rattle.q_session.specs.declared.query.Query.{Query}
use Rattle.q_book.specs.State.{BookState}

-- ---- journals

-- what stands after the number of events: nothing where no byte was cut
abbrev pub cut_text : ℕ → List ℕ
cut_text zero = []
cut_text (suc n) = codes " cut " ++ (decimal (suc n) ++ codes " bytes")

-- the file of this name has the journal of this book, and so many bytes after it
abbrev pub journal_line : List ℕ → BookState → ℕ → List ℕ
journal_line name b cut =
    name ++ (codes " node " ++ (decimal b.id ++ (codes " events " ++ (decimal (length b.desk.journal) ++ (cut_text cut ++ 10 ∷ [])))))

-- ---- answers

-- a node, and which of its stores
abbrev pub store_text : ℕ × Stored → List ℕ
store_text e = 32 ∷ decimal e.0 ++ (58 ∷ decimal e.1.number)

-- the stores of which a view has the values, by their nodes
abbrev pub view_text : ViewMap → List ℕ
view_text view = flat_map store_text (fin.entries view)

-- the answer of the query of this number at the node, with the view that it saw, if it is recorded
abbrev pub answer_line : ℕ → ℕ → Phase → List ℕ
answer_line node query (Answered view ran) =
    codes "answer "
    ++ (decimal node ++ (32 ∷ (decimal query ++ (32 ∷ (decimal ran.acc ++ (32 ∷ (decimal ran.steps ++ (codes " view" ++ (view_text view ++ 10 ∷ [])))))))))
answer_line node query p = []

-- those of queries whose numbers begin at this one
abbrev pub answer_lines : ℕ → ℕ → List Query → List ℕ
answer_lines node first [] = []
answer_lines node first (q ∷ qs) = answer_line node first q.phase ++ answer_lines node (suc first) qs

abbrev pub book_lines : BookState → List ℕ
book_lines b = answer_lines b.id 0 b.desk.queries

-- those of these books in turn
abbrev pub answers_of : List BookState → List ℕ
answers_of books = flat_map book_lines books
