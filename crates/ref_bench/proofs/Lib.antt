mod CallerLists
