pub mod MarkdownViews
