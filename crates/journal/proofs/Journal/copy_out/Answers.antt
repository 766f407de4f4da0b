-- the words read where they stand are those of the row
use Rattle.std.proofs.Common.{◌≡◌, ℕ, List, length, Ok, Option, sym, ap, ◌∙◌, arith}
use Rattle.refusal.specs.declared.StoreRefusal.{StoreRefusal}
use Rattle.refusal.specs.Answers.{unless_refused, replied}
use Rattle.store.specs.Table.{over}
use Rattle.records.specs.Encode.{words_in}
use Rattle.records.specs.Layout.{row_in}
use Rattle.records.proofs.Words.{length-words_in}
use Rattle.journal.specs.State.{records_of}
use Rattle.journal.proofs.Reading.{fits_read, short-read, words_there}
use Rattle.journal.proofs.Journal.copy_out.Goals as goal

pub returns-then-count-buffer : goal.returns-then-count-buffer
returns-then-count-buffer c =
    let ws = (row_in (records_of c.args.self.now) c.args.place).words in
    let b = c.args.buffer.now in
    let long : length ws ≡ c.args.place.count = length-words_in c.args.place.count _ in
    let short = short-read ws c.args.place.count (length b) long (omega arith) in
    record {
      answer = sym (ap (λ (why : Option StoreRefusal). replied why (length ws)) short);
      buffer = sym (ap (λ (why : Option StoreRefusal). unless_refused why b (over ws b)) short);
    }

pub returns : goal.returns
returns c =
    let h = c.args.place in
    let bytes = c.args.self.now.bytes.now in
    let ws = (row_in (records_of c.args.self.now) h).words in
    let b = c.args.buffer.now in
    let long : length ws ≡ h.count = length-words_in h.count _ in
    let fits = fits_read ws h.count (length b) long (omega arith) in
    let size = c.args.self.now.size in
    let low = c.args.self.now.within in
    let there = words_there bytes c.args.self.now.used h.at h.count _ c.requires (omega arith) (omega arith) in
    record {
      answer = ap Ok (sym long) ∙ sym (ap (λ (why : Option StoreRefusal). replied why (length ws)) fits);
      buffer = c.read_words.ensures ∙ ap (λ (bs : List ℕ). over (words_in h.count bs) b) there
          ∙ sym (ap (λ (why : Option StoreRefusal). unless_refused why b (over ws b)) fits);
    }
