use Rattle.std.proofs.Common.{◌≡◌, ℕ, List, [], ◌++◌, append_assoc, ap, ◌∙◌}
use Rattle.m51_records.specs.Spelling.{header_record, end_record, bytes_of}
use Rattle.m51_records.proofs.writing.write_module.Goals as goal

-- the records of a module, appended one after another
gathered : (o0 o1 o2 o3 o4 o5 o6 o7 h s x p c f e : List ℕ) → o0 ≡ [] → o1 ≡ o0 ++ h → o2 ≡ o1 ++ s → o3 ≡ o2 ++ x
    → o4 ≡ o3 ++ p → o5 ≡ o4 ++ c → o6 ≡ o5 ++ f → o7 ≡ o6 ++ e
    → o7 ≡ h ++ (s ++ (x ++ (p ++ (c ++ (f ++ e)))))
gathered o0 o1 o2 o3 o4 o5 o6 o7 h s x p c f e e0 e1 e2 e3 e4 e5 e6 e7 =
    rw (e7, e6, e5, e4, e3, e2, e1, e0) (simp append_assoc)

pub returns : goal.returns
unfolding bytes_of
returns c =
    let header : header_record c.name-name.result c.version.result
    ≡ header_record c.args.module.now.name c.args.module.now.version =
    ap (λ n. header_record n c.version.result) c.name-name.ensures
    ∙ ap (header_record c.args.module.now.name) c.version.ensures.version in
    let last : end_record c.name-name.result c.banks.result
    ≡ end_record c.args.module.now.name c.args.module.now.banks =
    ap (λ n. end_record n c.banks.result) c.name-name.ensures
    ∙ ap (end_record c.args.module.now.name) c.banks.ensures.banks in
    gathered _ _ _ _ _ _ _ _ _ _ _ _ _ _ _ c.new-out.ensures.items
    (c.in_ok-put_header.ensures ∙ ap (λ l. c.new-out.result.items ++ l) header)
    (rw c.segments.ensures.list at c.in_ok-write_records.ensures)
    (rw c.externals.ensures.list at c.in_ok-write_records-2.ensures)
    (rw c.publics.ensures.list at c.in_ok-write_records-3.ensures)
    (rw c.pieces.ensures.list at c.in_ok-write_records-4.ensures)
    (rw c.fixups.ensures.list at c.in_ok-write_records-5.ensures)
    (c.in_ok-put_end.ensures ∙ ap (λ l. c.write_records-5.new.out.items ++ l) last)
